use Rattle.scf_compile.proofs.Common.{◌≡◌, All, take}
use Rattle.scf_compile.proofs.ranges.effective_rules.Given as goal

abbrev pub invariant-loop-rule : goal.invariant-loop-rule
invariant-loop-rule l = All (λ r. r.answer ≡ l.default) (take l.rule-index l.number_rules.rules.items)
