use Rattle.scf_compare.proofs.Common.{◌≡◌, ◌≤◌, ◌<◌, ℕ, length, slice_index, saturated, tree_size}
use Rattle.scf_compare.proofs.tree_sizes.paths_of.Given as goal

abbrev pub invariant-loop-index : goal.invariant-loop-index
invariant-loop-index l =
    (at : ℕ) → l.index ≤ at → at < length l.insns → slice_index l.sizes at ≡ saturated (tree_size l.insns at)
