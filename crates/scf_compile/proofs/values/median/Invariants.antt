use Rattle.scf_compile.proofs.Common.{◌≡◌, length}
use Rattle.scf_compile.proofs.values.median.Given as goal

-- as many halves as values so far
abbrev pub invariant-loop-value : goal.invariant-loop-value
invariant-loop-value l = length l.sorted.items ≡ l.value-index
