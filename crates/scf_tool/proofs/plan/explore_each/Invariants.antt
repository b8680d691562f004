use Rattle.scf_compare.specs.Sides.{behavior_of}
use Rattle.scf_tool.proofs.Common.{◌≡◌, ◌+◌, ◌≤◌, AllZip, take}
use Rattle.std.proofs.Common.{sum_by, ◌*◌}
use Rattle.scf_tool.specs.Explorations.{AreListed}
use Rattle.scf_tool.proofs.plan.explore_each.Given as goal

abbrev pub invariant-loop-pairing : goal.invariant-loop-pairing
invariant-loop-pairing l = record {
  each : AllZip (λ pairing. AreListed (behavior_of pairing.left) (behavior_of pairing.right) pairing.over l.fn.limit)
      (take l.pairing-index l.pairings) l.listed.items;
  spent : l.remaining + sum_by (λ regions. regions.steps) l.listed.items ≡ l.fn.limit;
  below : sum_by (λ regions. regions.steps) l.listed.items
      ≤ sum_by (λ pairing. (behavior_of pairing.left).size * (behavior_of pairing.right).size) (take l.pairing-index l.pairings);
}
