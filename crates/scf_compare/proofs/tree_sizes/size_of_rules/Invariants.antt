use Rattle.scf_compare.proofs.Common.{◌≡◌, drop, rules_size, saturated}
use Rattle.scf_compare.proofs.tree_sizes.size_of_rules.Given as goal

abbrev pub invariant-loop-index : goal.invariant-loop-index
invariant-loop-index l = l.size ≡ saturated (rules_size (drop l.index l.rules))
