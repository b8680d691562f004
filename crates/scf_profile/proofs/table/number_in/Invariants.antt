use Rattle.scf_profile.proofs.Common.{◌-◌, ◌≤◌, length}
use Rattle.scf_profile.proofs.NameSearch.{AreAbove, AreBelow}
use Rattle.scf_profile.proofs.table.number_in.Given as goal

-- the name can only stand between the two indices
abbrev pub invariant-loop-low : goal.invariant-loop-low
invariant-loop-low l = record {
  inside : l.high ≤ length l.entries;
  below : AreBelow l.entries l.name l.low;
  above : AreAbove l.entries l.name l.high;
}

abbrev pub decreases-loop-low : goal.decreases-loop-low
decreases-loop-low l = l.high - l.low
