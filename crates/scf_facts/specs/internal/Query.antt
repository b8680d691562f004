-- What an atom asks of the number of its word.
use Rattle.std.specs.Prelude.{◌≡◌, ◌<◌, ◌≤◌, ◌^◌, ◌↔◌, ◌⊎◌, ℕ, Bool, IsTrue, true, bit_and}
use Rattle.std.specs.Int.{IsPowerOfTwo}
use Rattle.scf_facts.specs.declared.atom.Atom.{Atom}
use Rattle.scf_facts.specs.declared.query.Query.{Query}
use Rattle.scf_facts.specs.declared.query.Query.TheVariants.{Within, Masked}
use Rattle.scf_facts.specs.Atoms.{answer_at}
use Rattle.scf_facts.specs.Bits.{HasBits}
use Rattle.scf_facts.specs.Intervals.{LiesIn}
use Rattle.scf_facts.specs.Exactness.{KeepsExact}
use Rattle.scf_facts.specs.Masks.{IsAmong, KeepsAmong}

-- the answer of the atom by where the number lies, or by bits whose value lies within their mask
abbrev pub Asks : Atom → Query → Type 0
Asks atom (Within range answer) =
    (range.low ≤ range.high) × ((x : ℕ) → x < 2 ^ 32 → LiesIn range x ↔ (answer_at atom x ≡ answer))
Asks atom (Masked bits) =
    (bit_and bits.value bits.mask ≡ bits.value) × ((x : ℕ) → HasBits bits x ↔ (answer_at atom x ≡ true))

-- where the bits are those of a simple mask, as far as an answer has to keep facts exact
abbrev pub AsksSimply : Atom → Query → Type 0
AsksSimply atom (Within range answer) = Unit {0}
AsksSimply atom (Masked bits) =
    (holds : Bool) → KeepsExact atom holds → IsTrue holds ⊎ (bits.mask ≡ 0) ⊎ IsPowerOfTwo bits.mask

-- or of a mask whose bits are among those of another, as far as an answer may refute under these alone
abbrev pub AsksAmong : ℕ → Atom → Query → Type 0
AsksAmong masks atom (Within range answer) = Unit {0}
AsksAmong masks atom (Masked bits) =
    (holds : Bool) → KeepsAmong masks atom holds
    → IsTrue holds ⊎ (bits.mask ≡ 0) ⊎ IsPowerOfTwo bits.mask ⊎ IsAmong bits.mask masks
