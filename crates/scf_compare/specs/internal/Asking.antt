-- Atoms that may be asked where facts are to refute under bits of masks alone.
use Rattle.std.specs.Prelude.{ℕ, true, false}
use Rattle.scf_facts.specs.declared.atom.Atom.{Atom}
use Rattle.scf_facts.specs.Masks.{KeepsAmong}

-- they do so still, whichever answer they learn
abbrev pub KeepsEither : ℕ → Atom → Type 0
KeepsEither masks atom = KeepsAmong masks atom true × KeepsAmong masks atom false
