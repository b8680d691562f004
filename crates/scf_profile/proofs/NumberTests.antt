-- A condition is decided by its test, half by half.
use Rattle.scf_profile.proofs.Common.{◌≡◌, ℕ, ◌-◌, ◌<◌, ◌^◌, eqb, leb, ltb, arith, nat_tests, compares, IsPlainCondition, common_steps}
use Rattle.std.proofs.lemmas.Nat.{and_mask}
use Rattle.scf_insn.proofs.Halves.{leb_split, ltb_split, masked_split}
use Rattle.scf_profile.specs.declared.condition.Operator.{Operator}
use Rattle.scf_profile.specs.declared.condition.Condition.{Condition}
use Rattle.scf_profile.specs.declared.number_test.NumberTest.TheVariants as tests
use Rattle.scf_profile.specs.Condition.{condition_holds}
use Rattle.scf_profile.specs.NumberTests.{IsPlainTest, comes_to, test_by, test_of, tree_answer}

-- under all bits a number is itself
equal : (n value : ℕ) → n < 2 ^ 64 → tree_answer (tests.Masked (2 ^ 64 - 1) value) n ≡ eqb n value
equal n value fits = grind (arith, common_steps, nat_tests, and_mask)

greater : (n value : ℕ) → tree_answer (tests.Greater value) n ≡ ltb value n
greater n value = grind (arith, nat_tests, ltb_split value n)

at_least : (n value : ℕ) → tree_answer (tests.GreaterOrEqual value) n ≡ leb value n
at_least n value = grind (arith, nat_tests, leb_split value n)

by_operator : (op : Operator) (value value_two n : ℕ) → n < 2 ^ 64
    → comes_to (test_by op value value_two) n ≡ compares op n value value_two
by_operator op value value_two n h = grind (arith, common_steps, nat_tests, equal, at_least, greater, masked_split)

pub decides : (c : Condition) (n : ℕ) → n < 2 ^ 64 → comes_to (test_of c) n ≡ condition_holds c n
decides c n fits = by_operator c.op c.value c.value_two n fits

-- of a condition with simple masks the test is plain
pub plain_of : (c : Condition) → IsPlainCondition c → IsPlainTest (test_of c).0
plain_of c plain = grind (arith, common_steps, nat_tests)
