-- The names of entries, under their numbers.
use Rattle.std.specs.Prelude.{◌≡◌, ℕ, ◌==◌, List, [], length, filter, is_some, nat_lt}
use Rattle.std.specs.Borrow.{Bor}
use Rattle.std.specs.BTreeMap.{BTreeMap, get}
use Rattle.std.specs.Map.{keys_of}
use Rattle.std.specs.Option.{option_map_or}
use Rattle.std.specs.Ordering.{nat_cmp}
use Rattle.std.specs.declared.alloc.Global.{Global}
use Rattle.std.specs.declared.vec.Vec.{Vec}
use Rattle.scf_profile.specs.declared.named_call.NamedCall.{NamedCall}
use Rattle.scf_profile.specs.References.{texts_at}

-- names under numbers
abbrev pub Named : Type 0
Named = BTreeMap ℕ (Vec (Bor (List ℕ)) Global)

-- a number and its names as a call
abbrev pub named_call : ℕ × Vec (Bor (List ℕ)) Global → NamedCall
named_call e = record { number = e.0; names = e.1 }

-- the names under a number
abbrev pub names_under : Named → ℕ → List (List ℕ)
names_under under number = option_map_or (λ names. texts_at names.items) (get nat_cmp under number) []

-- the names of entries with a number
abbrev pub names_with : ℕ → List (List ℕ × ℕ) → List (List ℕ)
names_with number entries = keys_of (filter (λ e. number == e.1) entries)

-- Each number stands in the tree over the names that have it, where there are any.
pub record AreByNumber (entries : List (List ℕ × ℕ)) (under : Named) : Type 0 where
  pub names : (number : ℕ) → names_under under number ≡ names_with number entries
  pub numbers_in : (number : ℕ) → is_some (get nat_cmp under number) ≡ nat_lt 0 (length (names_under under number))
