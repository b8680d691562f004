-- Facts that refute values under few bits.
use Rattle.std.specs.Prelude.{◌≡◌, ◌≤◌, ◌⊎◌, ℕ, List, All, Bool, IsTrue, bit_and, count_ones}
use Rattle.scf_insn.specs.SimpleMask.{IsSimpleMask}
use Rattle.scf_facts.specs.declared.atom.Atom.{Atom}
use Rattle.scf_facts.specs.declared.atom.Atom.TheVariants.{Eq, Gt, Ge, In}
use Rattle.scf_facts.specs.WordSets.{NumberFacts}

-- the bits of one mask are among those of another
abbrev pub IsAmong : ℕ → ℕ → Type 0
IsAmong mask masks = bit_and masks mask ≡ mask

-- so few bits that a search through their values, of which there are at most 2^16, comes to its end
abbrev pub AreFew : ℕ → Type 0
AreFew masks = count_ones masks ≤ 16

-- what a word refutes, it refutes under bits of a mask
abbrev pub RefutesAmong : ℕ → NumberFacts → Type 0
RefutesAmong masks facts = All (λ bits. IsAmong bits.mask masks) facts.refuted

-- so does each word
unfoldable pub RefuteAmong : ℕ → List NumberFacts → Type 0
RefuteAmong masks sets = All (RefutesAmong masks) sets

-- to learn this answer of the atom refutes nothing, or refutes under bits of a mask
abbrev pub KeepsAmong : ℕ → Atom → Bool → Type 0
KeepsAmong masks (Eq word mask value) holds = IsTrue holds ⊎ IsSimpleMask mask ⊎ IsAmong mask masks
KeepsAmong masks (Gt word value) holds = Unit {0}
KeepsAmong masks (Ge word value) holds = Unit {0}
KeepsAmong masks (In word low high) holds = Unit {0}
