use Rattle.scf_profile.proofs.Common.{◌≡◌, ℕ, length, nat_lt, ◌++◌, is_some, nat_cmp, drop, rules_of, rules_under}
use Rattle.std.specs.BTreeMap.{get}
use Rattle.scf_profile.proofs.number_rules.rules_under_numbers.Given as goal

-- the rules so far and those that are left are all
abbrev pub invariant-loop-rule : goal.invariant-loop-rule
invariant-loop-rule l = record {
  kept : (n : ℕ) → rules_under l.under n ++ rules_of n (drop l.rule-index l.rules) ≡ rules_of n l.rules;
  numbers : (n : ℕ) → is_some (get nat_cmp l.under n) ≡ nat_lt 0 (length (rules_under l.under n));
}
