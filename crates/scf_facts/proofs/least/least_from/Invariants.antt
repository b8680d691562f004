use Rattle.scf_facts.proofs.Common.{◌<◌, ◌≤◌, ◌-◌, ◌^◌, ℕ, LacksBits}
use Rattle.scf_facts.proofs.least.least_from.Given as goal

abbrev pub invariant-loop-next : goal.invariant-loop-next
invariant-loop-next l = record {
  from : l.low ≤ l.x;
  none : (y : ℕ) → l.low ≤ y → y < l.x → LacksBits l.bits y;
}

abbrev pub decreases-loop-next : goal.decreases-loop-next
decreases-loop-next l = 2 ^ 32 - l.x
