-- Rules under their numbers, in a tree.
use Rattle.std.specs.Prelude.{◌≡◌, ℕ, List, [], length, is_some, nat_lt}
use Rattle.std.specs.BTreeMap.{BTreeMap, get}
use Rattle.std.specs.Option.{option_map_or}
use Rattle.std.specs.Ordering.{nat_cmp}
use Rattle.smallvec.specs.SmallVec.{SmallVec}
use Rattle.scf_profile.specs.declared.number_rules.NumberRules.{NumberRules}
use Rattle.scf_profile.specs.declared.rule.Rule.{Rule}
use Rattle.scf_profile.specs.RulesByNumber.{rules_of}

-- rules under numbers
abbrev pub Under : Type 0
Under = BTreeMap ℕ (SmallVec Rule)

-- a number and the rules under it
abbrev pub pair_of : NumberRules → ℕ × SmallVec Rule
pair_of group = (group.number, group.rules)

-- the rules under a number
abbrev pub rules_under : Under → ℕ → List Rule
rules_under under number = option_map_or (λ (rules : SmallVec Rule). rules.items) (get nat_cmp under number) []

-- Each number stands in the tree over the rules that have it, where there are any.
pub record AreUnder (rules : List Rule) (under : Under) : Type 0 where
  pub kept : (number : ℕ) → rules_under under number ≡ rules_of number rules
  pub numbers_in : (number : ℕ) → is_some (get nat_cmp under number) ≡ nat_lt 0 (length (rules_under under number))
