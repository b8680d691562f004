-- Intervals in order and apart, and their parts.
use Rattle.std.specs.Prelude.{◌+◌, ◌-◌, ◌≤◌, ◌^◌, ◌↔◌, ℕ, List, [], ◌∷◌}
use Rattle.scf_facts.specs.declared.interval.Interval.{Interval}
use Rattle.scf_facts.specs.Intervals.{LiesInOne}

-- the intervals are filled, in order and apart, from a number on
abbrev pub AreApartFrom : ℕ → List Interval → Type 0
AreApartFrom least [] = Unit {0}
AreApartFrom least (interval ∷ later) =
    (least ≤ interval.low) × (interval.low ≤ interval.high) × AreApartFrom (interval.high + 1) later

abbrev pub AreApart : List Interval → Type 0
AreApart intervals = AreApartFrom 0 intervals

-- the first intervals have those numbers of the others that have a property, and are in order and apart
abbrev pub ArePartsOf : (ℕ → Type 0) → List Interval → List Interval → Type 0
ArePartsOf P whole parts = AreApart parts × ((x : ℕ) → LiesInOne parts x ↔ (LiesInOne whole x × P x))

-- the interval of all numbers alone
abbrev pub all_intervals : List Interval
all_intervals = record { low = 0; high = 2 ^ 32 - 1 } ∷ []
