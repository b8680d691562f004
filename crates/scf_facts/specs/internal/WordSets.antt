-- What the facts of a word say of all its numbers, and when facts are exact.
use Rattle.std.specs.Prelude.{◌==◌, ◌<◌, ◌^◌, ℕ, List, [], Bool, length}
use Rattle.std.specs.List.{list_all}
use Rattle.scf_facts.specs.WordSets.{AllowsNumber, NumberFacts}
use Rattle.scf_facts.specs.internal.Intervals.{all_intervals}

-- nothing is known
abbrev pub no_facts : NumberFacts
no_facts = record { intervals = all_intervals; known = record { mask = 0; value = 0 }; refuted = [] }

-- each number that the word may be has a property
abbrev pub EachNumber : NumberFacts → (ℕ → Type 0) → Type 0
EachNumber facts P = (x : ℕ) → x < 2 ^ 32 → AllowsNumber facts x → P x

-- some number that the word may be has a property
abbrev pub SomeNumber : NumberFacts → (ℕ → Type 0) → Type 0
SomeNumber facts P = (x : ℕ) × (x < 2 ^ 32) × AllowsNumber facts x × P x

-- what is known of the number is in its intervals and known bits
abbrev pub is_exact_set : NumberFacts → Bool
is_exact_set facts = length facts.refuted == 0

-- so is what is known of each word
abbrev pub are_exact_sets : List NumberFacts → Bool
are_exact_sets sets = list_all is_exact_set sets
