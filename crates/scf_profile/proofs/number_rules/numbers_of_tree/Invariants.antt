use Rattle.scf_profile.proofs.Common.{◌≡◌, ◌++◌, All, map, true}
use Rattle.scf_profile.specs.NumberRules.{AreRising}
use Rattle.scf_profile.specs.internal.RulesUnder.{pair_of}
use Rattle.scf_profile.proofs.number_rules.numbers_of_tree.Given as goal

-- the numbers so far and those to come are those of the map
abbrev pub invariant-loop-number : goal.invariant-loop-number
invariant-loop-number l = record {
  entries : map pair_of l.numbers.items ++ l.number-iterator ≡ l.fn.under.entries;
  risen : All (λ group. group.is_rising ≡ true → AreRising group.rules.items) l.numbers.items;
}
