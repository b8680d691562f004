-- A condition as a test of a 64-bit number, and the test by the halves of the number: BPF tests words of 32 bits
-- (Linux uapi filter.h).
use Rattle.std.specs.Prelude.{ℕ, ◌-◌, ◌^◌, ◌==◌, Bool, true, false, not, nat_lt, nat_le, bit_and, if◌then◌else◌}
use Rattle.scf_insn.specs.SimpleMask.{IsSimpleMask}
use Rattle.scf_insn.specs.Words.{low, high}
use Rattle.scf_profile.specs.declared.condition.Condition.{Condition}
use Rattle.scf_profile.specs.declared.condition.Operator.{Operator}
use Rattle.scf_profile.specs.declared.condition.Operator.TheVariants as operators
use Rattle.scf_profile.specs.declared.number_test.NumberTest.{NumberTest}
use Rattle.scf_profile.specs.declared.number_test.NumberTest.TheVariants.{Masked, Greater, GreaterOrEqual}

-- the test of an operator, and what it comes to where the condition holds
abbrev pub test_by : Operator → ℕ → ℕ → NumberTest × Bool
test_by operators.NotEqual value value_two = (Masked (2 ^ 64 - 1) value, false)
test_by operators.Less value value_two = (GreaterOrEqual value, false)
test_by operators.LessOrEqual value value_two = (Greater value, false)
test_by operators.Equal value value_two = (Masked (2 ^ 64 - 1) value, true)
test_by operators.GreaterOrEqual value value_two = (GreaterOrEqual value, true)
test_by operators.Greater value value_two = (Greater value, true)
test_by operators.MaskedEqual value value_two = (Masked value (bit_and value_two value), true)

abbrev pub test_of : Condition → NumberTest × Bool
test_of c = test_by c.op c.value c.value_two

-- What a test says of a number, by a tree of tests of its halves. The high half is looked at first: where it is that of
-- the value, the low half decides; where it isn't, an order is that of the high halves.
abbrev pub tree_answer : NumberTest → ℕ → Bool
tree_answer (Masked mask value) n =
    (if bit_and (high n) (high mask) == high value then bit_and (low n) (low mask) == low value else false)
tree_answer (Greater value) n =
    (if high n == high value then nat_lt (low value) (low n) else nat_lt (high value) (high n))
tree_answer (GreaterOrEqual value) n =
    (if high n == high value then nat_le (low value) (low n) else nat_lt (high value) (high n))

-- a test comes to what is expected of it
abbrev pub comes_to : NumberTest × Bool → ℕ → Bool
comes_to test n = if test.1 then tree_answer test.0 n else not (tree_answer test.0 n)

-- the halves of its mask are simple
abbrev pub IsPlainTest : NumberTest → Type 0
IsPlainTest (Masked mask value) = IsSimpleMask (high mask) × IsSimpleMask (low mask)
IsPlainTest test = Unit {0}
