-- What regions say of the records in them.
use Rattle.std.specs.Prelude.{◌≡◌, ◌*◌, ◌≤◌, ℕ, List, Some, All, AllPairs, Contains, IfSome, IsSome, IsTrue, length, slice_get}
use Rattle.scf_insn.specs.declared.record.CallRecord.{CallRecord}
use Rattle.scf_insn.specs.Words.{IsRecord, IsWords, call_of, words_of}
use Rattle.scf_facts.specs.WordSets.{AllowsWords}
use Rattle.scf_compare.specs.declared.region.Region.{Region}
use Rattle.scf_compare.specs.declared.regions.Regions.{Regions}
use Rattle.scf_compare.specs.Leaves.{IsLeaf, KnowsBoth, Tells}
use Rattle.scf_compare.specs.Sides.{Behavior}

-- a list of words lies in one of the regions, and both sides answer it as that says
pub record IsCovered (left right : Behavior) (regions : List Region) (words : List ℕ) : Type 0 where
  pub region : Region
  pub listed : Contains regions region
  pub inside : AllowsWords region.words words
  pub answered : Tells left right region.leaf words

-- A region has only words of records of the scope, its example is one of these, and both sides end where it says. If it
-- is exact, it has an example, and both sides answer all words in it as it says.
pub record IsRegion (left right : Behavior) (in_scope : CallRecord → Type 0) (region : Region) : Type 0 where
  pub within : (words : List ℕ) → AllowsWords region.words words → IsWords words × in_scope (call_of words)
  pub shown : IfSome region.example (λ call. IsRecord call × AllowsWords region.words (words_of call))
  pub ends : IsLeaf left right region.leaf
  pub exact : IsTrue region.is_exact → IsSome region.example
      × ((words : List ℕ) → AllowsWords region.words words → Tells left right region.leaf words)

-- two regions, if both are exact, have no words in common
abbrev pub AreDisjoint : Region → Region → Type 0
AreDisjoint first second = IsTrue first.is_exact → IsTrue second.is_exact → (words : List ℕ)
    → AllowsWords first.words words → AllowsWords second.words words → ⊥

-- a region is exact, and says both answers
abbrev pub IsDecidedRegion : Region → Type 0
IsDecidedRegion region = IsTrue region.is_exact × KnowsBoth region.leaf

-- words lie in the region at an index
abbrev pub LieInRegion : List Region → List ℕ → ℕ → Type 0
LieInRegion regions words index =
    (region : Region) × (slice_get regions index ≡ Some region) × AllowsWords region.words words

-- each record of a scope lies in one of the regions, and in no other
abbrev pub IsPartition : (CallRecord → Type 0) → List Region → Type 0
IsPartition in_scope regions = (call : CallRecord) → IsRecord call → in_scope call
    → (index : ℕ) × LieInRegion regions (words_of call) index
    × ((other : ℕ) → LieInRegion regions (words_of call) other → other ≡ index)

-- The regions of two sides over a scope, in at most so many steps: each record of the scope lies in one, and exact ones
-- don't overlap.
pub record AreRegions (left right : Behavior) (in_scope : CallRecord → Type 0) (limit : ℕ) (regions : Regions)
    : Type 0 where
  pub covered : (call : CallRecord) → IsRecord call → in_scope call
      → IsCovered left right regions.list.items (words_of call)
  pub each : All (IsRegion left right in_scope) regions.list.items
  pub disjoint : AllPairs AreDisjoint regions.list.items
  pub counted : length regions.list.items ≤ regions.steps
  pub within_limit : regions.steps ≤ limit
  pub within_size : regions.steps ≤ left.size * right.size
