use Rattle.scf_profile.proofs.Common.{◌≡◌, ◌≤◌, ◌++◌, drop, vec_len, max_rules, rules_numbered}
use Rattle.scf_profile.proofs.expand.add_rules.Given as goal

-- what was added and what is stated for the numbers that are left is what all numbers state
abbrev pub invariant-loop-number : goal.invariant-loop-number
invariant-loop-number l = record {
  rules : l.rules.items ++ rules_numbered l.index l.conditions l.answer (drop l.number-index l.numbers)
      ≡ l.fn.rules.items ++ rules_numbered l.index l.conditions l.answer l.numbers;
  few : vec_len l.rules ≤ max_rules;
}
