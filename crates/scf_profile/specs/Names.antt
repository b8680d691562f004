-- The map that a table holds.
use Rattle.std.specs.Prelude.{ℕ, List}
use Rattle.std.specs.Cmp.Lexicographic.{slice_cmp}
use Rattle.std.specs.FinMap.{from_entries}
use Rattle.std.specs.List.Sorted.{IsStrictlySortedBy}
use Rattle.std.specs.Map.{keys_of}
use Rattle.std.specs.Ordering.{nat_cmp}
use Rattle.scf_profile.specs.Table.{Names}

-- names, each with its number
abbrev pub names_of : List (List ℕ × ℕ) → Names
names_of entries = from_entries entries

-- the names rise in the order of their bytes
abbrev pub AreSorted : List (List ℕ × ℕ) → Type 0
AreSorted entries = IsStrictlySortedBy (slice_cmp nat_cmp) (keys_of entries)
