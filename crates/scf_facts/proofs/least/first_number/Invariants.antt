use Rattle.scf_facts.proofs.Common.{◌<◌, ◌≤◌, ◌-◌, ◌^◌, ℕ, HasBits, LiesInOne}
use Rattle.scf_facts.proofs.least.first_number.Given as goal

-- no interval has such a number below the bound
abbrev pub invariant-loop-x : goal.invariant-loop-x
invariant-loop-x l = record {
  from : l.range.low ≤ l.bound;
  none : (y : ℕ) → l.range.low ≤ y → y < l.bound → LiesInOne l.intervals y → HasBits l.bits y → ⊥;
}

abbrev pub decreases-loop-x : goal.decreases-loop-x
decreases-loop-x l = 2 ^ 32 - l.bound
