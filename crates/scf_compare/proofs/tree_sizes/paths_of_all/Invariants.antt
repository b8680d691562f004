use Rattle.scf_compare.proofs.Common.{◌≡◌, drop, stack_paths, saturated}
use Rattle.scf_compare.proofs.tree_sizes.paths_of_all.Given as goal

abbrev pub invariant-loop-index : goal.invariant-loop-index
invariant-loop-index l = l.product ≡ saturated (stack_paths (drop l.index l.filters))
