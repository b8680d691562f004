use Rattle.scf_compile.proofs.Common.{◌≡◌, length}
use Rattle.scf_compile.proofs.weights.range_weights.Given as goal

abbrev pub invariant-loop-number_rules : goal.invariant-loop-number_rules
invariant-loop-number_rules l = length l.sums.items ≡ length l.ranges

abbrev pub invariant-loop-call : goal.invariant-loop-call
invariant-loop-call l = length l.sums.items ≡ length l.ranges
