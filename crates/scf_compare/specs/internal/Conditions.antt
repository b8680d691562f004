-- Conditions on arguments as questions about the halves of an argument.
use Rattle.std.specs.Prelude.{◌≡◌, ◌≢◌, ◌+◌, ◌*◌, ◌≤◌, ℕ, Bool, true, false, bit_and, if◌then◌else◌}
use Rattle.scf_insn.specs.declared.architecture.ArgumentBits.{ArgumentBits}
use Rattle.scf_insn.specs.declared.architecture.ArgumentBits.TheVariants.{Bits32}
use Rattle.scf_insn.specs.Words.{low, high}
use Rattle.scf_facts.specs.Atoms.{answer_at}
use Rattle.scf_profile.specs.declared.number_test.NumberTest.{NumberTest}
use Rattle.scf_profile.specs.declared.number_test.NumberTest.TheVariants.{Masked, Greater, GreaterOrEqual}
use Rattle.scf_profile.specs.NumberTests.{comes_to}
use Rattle.scf_compare.specs.Masked.{IsMaskOf}
use Rattle.scf_compare.specs.declared.question.ConditionPart.{ConditionPart}
use Rattle.scf_compare.specs.declared.question.ConditionPart.TheVariants.{High, Above, Low}
use Rattle.scf_compare.specs.declared.question.Successor.{Successor}
use Rattle.scf_compare.specs.declared.question.Successor.TheVariants.{Decided, Then}
use Rattle.scf_compare.specs.declared.question.Question.{Question}

-- both halves of the mask of a test are simple, or have bits among those of the masks
abbrev pub HasMasksOf : ℕ → NumberTest → Type 0
HasMasksOf masks (Masked mask value) = IsMaskOf masks (high mask) × IsMaskOf masks (low mask)
HasMasksOf masks test = Unit {0}

-- the half of a number that a part asks of
abbrev pub half_asked : ConditionPart → ℕ → ℕ
half_asked High n = high n
half_asked Above n = high n
half_asked Low n = low n

-- the word of that half, where the word of the low half is given
abbrev pub word_asked : ConditionPart → ℕ → ℕ
word_asked High low = low + 1
word_asked Above low = low + 1
word_asked Low low = low

-- a part asks of the high half of an argument of 32 bits: that half is 0, whatever its word is
abbrev pub asks_of_zero : ArgumentBits → ConditionPart → Bool
asks_of_zero Bits32 High = true
asks_of_zero Bits32 Above = true
asks_of_zero bits part = false

-- a number has the high half that a test wants
abbrev pub HasSameHigh : NumberTest → ℕ → Type 0
HasSameHigh (Masked mask value) n = bit_and (high n) (high mask) ≡ high value
HasSameHigh (Greater value) n = high n ≡ high value
HasSameHigh (GreaterOrEqual value) n = high n ≡ high value

-- it has another, and the order of both is asked
abbrev pub HasOtherHigh : NumberTest → ℕ → Type 0
HasOtherHigh (Masked mask value) n = ⊥
HasOtherHigh (Greater value) n = high n ≢ high value
HasOtherHigh (GreaterOrEqual value) n = high n ≢ high value

-- what is known of a number when a part of a test is asked
abbrev pub IsAtTest : NumberTest → ConditionPart → ℕ → Type 0
IsAtTest test High n = Unit {0}
IsAtTest test Above n = HasOtherHigh test n
IsAtTest test Low n = HasSameHigh test n

-- what is known of a number at a successor, by a test and the result that it has where the condition holds
abbrev pub LeadsTo : NumberTest × Bool → Successor → ℕ → Type 0
LeadsTo test (Decided holds) n = comes_to test n ≡ holds
LeadsTo test (Then part) n = IsAtTest test.0 part n

-- a part's question, as the half of a number answers it, leads to its successors
abbrev pub Splits : NumberTest × Bool → ConditionPart → Question → ℕ → Type 0
Splits test part question n =
    (answer_at question.atom (half_asked part n) ≡ true → LeadsTo test question.if_true n)
    × (answer_at question.atom (half_asked part n) ≡ false → LeadsTo test question.if_false n)

-- the successor of a question about a half that is 0
abbrev pub successor_at_zero : Question → Successor
successor_at_zero question = (if answer_at question.atom 0 then question.if_true else question.if_false)

-- the size of the tree from a part on, where those behind a condition that holds and one that fails have sizes
abbrev pub part_size : ConditionPart → ℕ → ℕ → ℕ
part_size High holds fails = 3 + 2 * holds + 2 * fails
part_size Above holds fails = 1 + holds + fails
part_size Low holds fails = 1 + holds + fails

abbrev pub successor_size : Successor → ℕ → ℕ → ℕ
successor_size (Decided result) holds fails = (if result then holds else fails)
successor_size (Then part) holds fails = part_size part holds fails

-- a part's question, and what both successors ask, are within its size
abbrev pub CostsAt : ConditionPart → Question → Type 0
CostsAt part question =
    (holds fails : ℕ)
    → successor_size question.if_true holds fails + successor_size question.if_false holds fails + 1
    ≤ part_size part holds fails
