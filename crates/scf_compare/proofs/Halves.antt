-- A condition on an argument by the halves of the argument.
use Rattle.scf_compare.proofs.Common.{◌≡◌, ◌∙◌, ℕ, ◌+◌, ◌*◌, ◌<◌, ◌^◌, true, false, List, ap, arith, slice_index, Atom, atom_answer, ArgumentBits, Bits32, Bits64, taken_of, IsWords, call_of, argument, words_of-call_of, argument_low, argument_high, IsRecord-call_of}
use Rattle.scf_facts.specs.Atoms.{answer_at, word_of}
use Rattle.scf_compare.specs.declared.question.ConditionPart.{ConditionPart}
use Rattle.scf_compare.specs.internal.Conditions.{asks_of_zero, half_asked, word_asked}

-- ---- the halves of an argument

pub argument_fits : (bits : ArgumentBits) (words : List ℕ) (i : ℕ) → IsWords words
    → taken_of bits (argument (call_of words) i) < 2 ^ 64
argument_fits Bits32 words i w = omega arith
argument_fits Bits64 words i w = (IsRecord-call_of words w).args i

-- the half that a part asks of is a word, unless it is 0 in every argument
module _ (words : List ℕ) (i : ℕ) (w : IsWords words) where
  pub half_there : (bits : ArgumentBits) (part : ConditionPart) → asks_of_zero bits part ≡ false
      → slice_index words (word_asked part (2 * i + 4)) ≡ half_asked part (taken_of bits (argument (call_of words) i))
  half_there bits part h =
      let low = rw (words_of-call_of words w) at (argument_low (call_of words) i) in
      let high = rw (words_of-call_of words w) at (argument_high (call_of words) i) in
      grind (arith, low, high)

pub half_is_zero : (bits : ArgumentBits) (part : ConditionPart) (register : ℕ) → asks_of_zero bits part ≡ true
    → half_asked part (taken_of bits register) ≡ 0
half_is_zero bits part register h = grind arith

-- ---- where a question leads

-- an atom about the word of a half answers as it does at the half
pub answer_there : (bits : ArgumentBits) (part : ConditionPart) (atom : Atom) (words : List ℕ) (i : ℕ) → IsWords words
    → asks_of_zero bits part ≡ false → word_of atom ≡ word_asked part (2 * i + 4)
    → atom_answer atom words ≡ answer_at atom (half_asked part (taken_of bits (argument (call_of words) i)))
answer_there bits part atom words i w h is =
    ap (answer_at atom) (ap (slice_index words) is ∙ half_there words i w bits part h)
