-- What walks over the records of a scope list: regions of records, with what filters or profiles answer to them.
use Rattle.std.specs.Prelude.{◌≡◌, ◌*◌, ◌<◌, ◌≤◌, ◌&&◌, ℕ, Bool, true, not, List, [], ◌∷◌, All, sum_by, Option, Some, None}
use Rattle.std.specs.List.{AllZip}
use Rattle.std.specs.Option.{option_map_or}
use Rattle.scf_insn.specs.Words.{words_of}
use Rattle.scf_insn.specs.declared.record.CallRecord.{CallRecord}
use Rattle.scf_insn.specs.declared.answer.Answer.{Answer}
use Rattle.scf_profile.specs.Scope.{IsInScope}
use Rattle.scf_profile.specs.declared.relation.Relation.TheVariants.{Same}
use Rattle.scf_profile.specs.declared.scope.Scope.{Scope}
use Rattle.scf_facts.specs.Masks.{AreFew}
use Rattle.scf_facts.specs.WordSets.{AllowsWords}
use Rattle.scf_compare.specs.Findings.{IsTrueFinding, compared_in}
use Rattle.scf_compare.specs.Regions.{AreRegions, IsDecidedRegion}
use Rattle.scf_compare.specs.Sides.{Behavior, behavior_of, profiles_behavior}
use Rattle.scf_compare.specs.declared.finding.Finding.TheVariants.{Fails}
use Rattle.scf_compare.specs.declared.region.Region.{Region}
use Rattle.scf_compare.specs.declared.regions.Regions.{Regions}
use Rattle.scf_profile.specs.declared.scope.Scope.TheVariants.{All as AllRecords}
use Rattle.scf_request.specs.declared.request.Comparison.{Comparison}
use Rattle.scf_request.specs.declared.request.Scopes.{Scopes}
use Rattle.scf_request.specs.declared.request.Scopes.TheVariants.{AtOnce, EachCall}
use Rattle.scf_tool.specs.ArchitectureScopes.{scope_of}
use Rattle.scf_tool.specs.Inputs.{behavior_of_input}
use Rattle.scf_tool.specs.RegionLines.{listing_text}
use Rattle.scf_tool.specs.declared.plan.Pairing.{Pairing}
use Rattle.scf_tool.specs.declared.region_lines.RegionFormat.{RegionFormat}
use Rattle.scf_tool.specs.declared.reply.Reply.{Reply}
use Rattle.scf_tool.specs.declared.reply.Reply.TheVariants.{Compared}
use Rattle.scf_tool.specs.declared.sides.SideInput.{SideInput}
use Rattle.scf_tool.specs.declared.sides.SideInput.TheVariants.{Profiles}
use Rattle.scf_tool.specs.declared.sides.SidesInput.{SidesInput}
use Rattle.scf_tool.specs.declared.status.Status.TheVariants.{Success, Unknown}

-- These are the regions of two sides over a scope, within a limit of steps. Those of sides whose masks have few bits
-- together, as of plain ones, are exact and have both answers.
pub record AreListed (left right : Behavior) (scope : Scope) (limit : ℕ) (regions : Regions) : Type 0 where
  pub are_regions : AreRegions left right (IsInScope scope) limit regions
  pub decided : (masks : ℕ) → AreFew masks → left.is_masked masks → right.is_masked masks
      → All IsDecidedRegion regions.list.items

-- Walks over several pairs of sides come to the regions of each, or to none, only if the limit of all steps is below
-- their sizes together.
abbrev pub ExploresEach : {A : Type 0} → (A → Behavior) → (A → Behavior) → (A → Scope) → List A → ℕ
    → Option (List Regions) → Type 0
ExploresEach left right over walks limit None = limit < sum_by (λ walk. (left walk).size * (right walk).size) walks
ExploresEach left right over walks limit (Some listed) =
    AllZip (λ walk. AreListed (left walk) (right walk) (over walk) limit) walks listed
    × (sum_by (λ regions. regions.steps) listed ≤ limit)

-- those over the sides of pairings
abbrev pub Explores : List Pairing → ℕ → Option (List Regions) → Type 0
Explores = ExploresEach (λ pairing. behavior_of pairing.left) (λ pairing. behavior_of pairing.right)
    (λ pairing. pairing.over)

-- A record of a region is one of the scope, and both sides answer it, but not alike.
abbrev pub HasDifference : Behavior → Behavior → Scope → Region → Type 0
HasDifference left right scope region = (call : CallRecord) × (first : Answer) × (second : Answer)
    × AllowsWords region.words (words_of call)
    × IsTrueFinding (compared_in Same scope left right) (Fails call first second)

-- ---- the reply of `answers`

-- what walks over two sides come to: over profiles of several architectures each over the records of its own
abbrev pub ExploresSides : Bool → SideInput → Behavior → Scope → ℕ → Option (List Regions) → Type 0
ExploresSides true (Profiles loaded) right scope = ExploresEach (λ p. profiles_behavior (p ∷ [])) (λ p. right)
    (λ p. scope_of scope p.architecture) loaded.profiles
ExploresSides of_each left right scope = ExploresEach behavior_of_input (λ input. right) (λ input. scope) (left ∷ [])

-- the records that are walked: single calls aren't walked by themselves
abbrev pub scope_walked : Scopes → Scope
scope_walked (AtOnce scope) = scope
scope_walked EachCall = AllRecords

-- the listing of walks in this format, or that they are unfinished, and the exit status
abbrev pub IsListing : RegionFormat → Option (List Regions) → Reply → Type 0
IsListing format explored (Compared text status) =
    (text.items ≡ listing_text format explored) × (status ≡ option_map_or (λ walks. Success) explored Unknown)
IsListing format explored reply = ⊥

-- The regions of a side, which has no other beside it, or with both answers those of two that aren't known to be
-- answered alike.
abbrev pub ListsAnswers : Comparison → Bool → Bool → SidesInput → Reply → Type 0
ListsAnswers comparison has_examples has_differences sides reply = (explored : Option (List Regions))
    × ExploresSides (sides.of_each && not has_differences) sides.left (behavior_of_input sides.right)
    (scope_walked comparison.scopes) comparison.limits.each explored
    × IsListing (record { has_differences = has_differences; has_examples = has_examples }) explored reply
