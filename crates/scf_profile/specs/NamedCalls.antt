-- The calls of a table, by number, each with its names.
use Rattle.std.specs.Prelude.{◌≡◌, ◌↔◌, ℕ, List, map, Some, All, Contains}
use Rattle.std.specs.Cmp.Lexicographic.{slice_cmp}
use Rattle.std.specs.FinMap.{get}
use Rattle.std.specs.List.Sorted.{IsStrictlyIncreasing, IsStrictlySortedBy}
use Rattle.std.specs.Ordering.{nat_cmp}
use Rattle.scf_profile.specs.declared.named_call.NamedCall.{NamedCall}
use Rattle.scf_profile.specs.References.{texts_at}
use Rattle.scf_profile.specs.Table.{Names}

-- the names that have the call's number in the table, each once, in the order of their bytes
pub record HasItsNames (table : Names) (call : NamedCall) : Type 0 where
  pub rising : IsStrictlySortedBy (slice_cmp nat_cmp) (texts_at call.names.items)
  pub exact : (name : List ℕ) → Contains (texts_at call.names.items) name ↔ (get table name ≡ Some call.number)

-- the numbers of the table, each once, rising, and each with its names
pub record AreCallsOf (table : Names) (calls : List NamedCall) : Type 0 where
  pub rising : IsStrictlyIncreasing (map (λ call. call.number) calls)
  pub exact : (number : ℕ)
      → Contains (map (λ call. call.number) calls) number ↔ ((name : List ℕ) × (get table name ≡ Some number))
  pub names : All (HasItsNames table) calls
