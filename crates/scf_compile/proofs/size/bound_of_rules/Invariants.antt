use Rattle.scf_compile.proofs.Common.{◌≡◌, sum_by, take, rule_bound}
use Rattle.scf_compile.proofs.size.bound_of_rules.Given as goal

-- the bound of the rules so far
abbrev pub invariant-loop-rule : goal.invariant-loop-rule
invariant-loop-rule l = l.bound ≡ sum_by rule_bound (take l.rule-index l.rules)
