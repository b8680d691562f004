use Rattle.scf_compare.proofs.Common.{◌≡◌, ℕ, drop, conditions_size, saturated}
use Rattle.scf_compare.proofs.tree_sizes.size_of_conditions.Given as goal

abbrev pub invariant-loop-index : goal.invariant-loop-index
invariant-loop-index l =
    (behind : ℕ) → l.fails ≡ saturated behind
    → l.size ≡ saturated (conditions_size (drop l._index l.conditions) behind)
