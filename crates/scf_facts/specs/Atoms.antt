-- What atoms ask of the words of a call record.
use Rattle.std.specs.Prelude.{◌==◌, ◌&&◌, ℕ, List, Bool, slice_index, bit_and, nat_lt, nat_le}
use Rattle.scf_facts.specs.declared.atom.Atom.{Atom}
use Rattle.scf_facts.specs.declared.atom.Atom.TheVariants.{Eq, Gt, Ge, In}

-- the number of the word that an atom asks of
abbrev pub word_of : Atom → ℕ
word_of (Eq word mask value) = word
word_of (Gt word value) = word
word_of (Ge word value) = word
word_of (In word low high) = word

-- what an atom answers where its word is this number; the order is unsigned
abbrev pub answer_at : Atom → ℕ → Bool
answer_at (Eq word mask value) number = bit_and number mask == value
answer_at (Gt word value) number = nat_lt value number
answer_at (Ge word value) number = nat_le value number
answer_at (In word low high) number = nat_le low number && nat_le number high

-- what an atom answers of a list of words
abbrev pub atom_answer : Atom → List ℕ → Bool
atom_answer atom words = answer_at atom (slice_index words (word_of atom))
