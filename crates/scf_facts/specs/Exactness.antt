-- Which answers leave facts exact.
use Rattle.std.specs.Prelude.{Bool, IsTrue, ◌⊎◌}
use Rattle.scf_insn.specs.SimpleMask.{IsSimpleMask}
use Rattle.scf_facts.specs.declared.atom.Atom.{Atom}
use Rattle.scf_facts.specs.declared.atom.Atom.TheVariants.{Eq, Gt, Ge, In}

-- to learn this answer of the atom keeps facts exact: an `Eq` that fails does so under a simple mask alone
abbrev pub KeepsExact : Atom → Bool → Type 0
KeepsExact (Eq word mask value) holds = IsTrue holds ⊎ IsSimpleMask mask
KeepsExact (Gt word value) holds = Unit {0}
KeepsExact (Ge word value) holds = Unit {0}
KeepsExact (In word low high) holds = Unit {0}
