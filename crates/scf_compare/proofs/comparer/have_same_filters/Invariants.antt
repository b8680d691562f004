use Rattle.scf_machine.specs.Rules.{IsFilter}
use Rattle.scf_compare.proofs.Common.{◌≡◌, All, take}
use Rattle.scf_compare.proofs.comparer.have_same_filters.Given as goal

abbrev pub invariant-loop-i : goal.invariant-loop-i
invariant-loop-i l = record {
  same : take l.i l.left ≡ take l.i l.right;
  filters : All IsFilter (take l.i l.left);
}
