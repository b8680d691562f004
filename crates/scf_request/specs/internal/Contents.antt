-- What the parts of a bundle hold, and one more part.
use Rattle.std.specs.Prelude.{◌≡◌, ℕ, List, Result, Ok, Err}
use Rattle.scf_request.specs.declared.bundle.BundleFault.{BundleFault}
use Rattle.scf_request.specs.declared.bundle.BundleFault.TheVariants.{Memory}
use Rattle.scf_request.specs.declared.bundle.PartKind.{PartKind}
use Rattle.scf_request.specs.declared.contents.Contents.{Contents}
use Rattle.scf_request.specs.declared.bundle.BundleForm.TheVariants.{Architectures}
use Rattle.scf_request.specs.Bundle.{kinds_of, with_part}
use Rattle.scf_request.specs.Contents.{held_by}

-- the kinds of parts of a bundle with a profile of several architectures
abbrev pub architecture_kinds : List PartKind
architecture_kinds = kinds_of Architectures

abbrev pub AddsPart : PartKind → List ℕ → Contents → Result (Unit {0}) BundleFault → Contents → Type 0
AddsPart added bytes old (Ok done) new = held_by new ≡ with_part added bytes (held_by old)
AddsPart added bytes old (Err fault) new = fault ≡ Memory
