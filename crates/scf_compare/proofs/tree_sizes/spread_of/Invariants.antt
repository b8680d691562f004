use Rattle.scf_compare.proofs.Common.{◌≡◌, ◌+◌, take, numbers_size, saturated}
use Rattle.scf_compare.specs.Effort.{stub_size}
use Rattle.scf_compare.proofs.tree_sizes.spread_of.Given as goal

abbrev pub invariant-loop-number : goal.invariant-loop-number
invariant-loop-number l = l.sum ≡ saturated (8 + stub_size l.profile.stub + numbers_size (take l.number-index l.number-items))
