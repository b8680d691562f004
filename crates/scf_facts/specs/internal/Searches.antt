-- How many tries a search takes.
use Rattle.std.specs.Prelude.{◌≡◌, ◌+◌, ◌<◌, ◌^◌, ℕ}
use Rattle.scf_facts.specs.declared.free_number.Searched.{Searched}
use Rattle.scf_facts.specs.declared.free_number.Searched.TheVariants.{GaveUp}

-- A search among the values of so many bits takes fewer tries than there are values, and gives up only where fewer
-- were left.
abbrev pub IsSearchOf : ℕ → ℕ → Searched → ℕ → Type 0
IsSearchOf count old result new = (old < new + 2 ^ count) × (result ≡ GaveUp → old + 1 < 2 ^ count)
