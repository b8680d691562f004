use Rattle.scf_compare.proofs.Common.{◌≡◌, drop, saturated}
use Rattle.scf_compare.specs.Effort.{answer_of_none, spread_in_turn}
use Rattle.scf_compare.proofs.tree_sizes.spread_of_all.Given as goal

abbrev pub invariant-loop-index : goal.invariant-loop-index
invariant-loop-index l = l.sum ≡ saturated (spread_in_turn (answer_of_none l.profiles) (drop l.index l.profiles))
