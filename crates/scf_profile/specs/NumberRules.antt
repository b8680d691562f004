-- The numbers that rules have, each with its rules.
use Rattle.std.specs.Prelude.{◌≡◌, ◌≤◌, ℕ, List, Some, true, map, All, slice_get}
use Rattle.std.specs.Option.{option_map_or}
use Rattle.std.specs.List.Sorted.{IsPermutation, IsStrictlyIncreasing}
use Rattle.scf_profile.specs.declared.condition.Condition.{Condition}
use Rattle.scf_profile.specs.declared.condition.Operator.TheVariants.{Equal}
use Rattle.scf_profile.specs.declared.number_rules.NumberRules.{NumberRules}
use Rattle.scf_profile.specs.declared.rule.Rule.{Rule}
use Rattle.scf_profile.specs.RulesByNumber.{numbers_of, rules_of}

-- The first conditions of two rules want the same argument to have a value, the later rule's no less than the
-- earlier's.
pub record Rise (earlier later : Rule) : Type 0 where
  pub first : Condition
  pub second : Condition
  pub begins : slice_get earlier.conditions 0 ≡ Some first
  pub later_begins : slice_get later.conditions 0 ≡ Some second
  pub equal : first.op ≡ Equal
  pub later_equal : second.op ≡ Equal
  pub index : first.index ≡ second.index
  pub rises : first.value ≤ second.value

-- so do those of each rule and of each from it on
abbrev pub AreRising : List Rule → Type 0
AreRising rules =
    (i j : ℕ) (r s : Rule) → i ≤ j → slice_get rules i ≡ Some r → slice_get rules j ≡ Some s → Rise r s

-- the value of a rule's first condition
abbrev pub first_value : Rule → ℕ
first_value r = option_map_or (λ (c : Condition). c.value) (slice_get r.conditions 0) 0

-- the distinct numbers of the rules, rising, each with its rules in their order
pub record AreNumbersOf (numbers : List NumberRules) (rules : List Rule) : Type 0 where
  pub rising : IsStrictlyIncreasing (map (λ group. group.number) numbers)
  pub same : IsPermutation (numbers_of rules) (map (λ group. group.number) numbers)
  pub own : All (λ group. group.rules.items ≡ rules_of group.number rules) numbers
  pub risen : All (λ group. group.is_rising ≡ true → AreRising group.rules.items) numbers
