-- Numbers by the intervals that they lie in.
use Rattle.std.specs.Prelude.{◌≤◌, ◌⊎◌, ℕ, List, [], ◌∷◌}
use Rattle.scf_facts.specs.declared.interval.Interval.{Interval}

-- a number lies in an interval
abbrev pub LiesIn : Interval → ℕ → Type 0
LiesIn interval x = (interval.low ≤ x) × (x ≤ interval.high)

-- a number lies in one of the intervals
abbrev pub LiesInOne : List Interval → ℕ → Type 0
LiesInOne [] x = ⊥
LiesInOne (interval ∷ later) x = LiesIn interval x ⊎ LiesInOne later x
