use Rattle.scf_facts.proofs.Common.{ℕ, ◌<◌, get_or, Interval, AllowsNumber}
use Rattle.scf_facts.proofs.word_set.WordSet.pick_end.Given as goal

-- no end so far is allowed
abbrev pub invariant-loop-interval : goal.invariant-loop-interval
invariant-loop-interval l = record {
  none : (index : ℕ) (default : Interval) → index < l.interval-index
      → (AllowsNumber l.self (get_or l.self.intervals index default).low → ⊥)
      × (AllowsNumber l.self (get_or l.self.intervals index default).high → ⊥);
}
