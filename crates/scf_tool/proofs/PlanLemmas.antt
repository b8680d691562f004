-- Several comparisons or walks, and the sides that they are of.
use Rattle.std.proofs.Common.{sum_by}
use Rattle.std.proofs.lemmas.List.Sums.{sum_by-cons}
use Rattle.std.proofs.lemmas.Slice.Zip.{all_zipped_more}
use Rattle.scf_compare.specs.Sides.{Behavior, behavior_of, profiles_behavior}
use Rattle.scf_compare.specs.declared.budget.Limit.{Limit}
use Rattle.scf_compare.specs.declared.regions.Regions.{Regions}
use Rattle.scf_compare.specs.declared.side.Side.{Side}
use Rattle.scf_compare.specs.declared.side.Side.TheVariants as sides
use Rattle.scf_profile.specs.Profile.{Profile}
use Rattle.scf_profile.specs.StatedProfile.{Tables}
use Rattle.scf_profile.specs.declared.relation.Relation.{Relation}
use Rattle.scf_profile.specs.declared.scope.Scope.{Scope}
use Rattle.scf_request.specs.declared.request.Comparison.{Comparison}
use Rattle.scf_request.specs.declared.request.Scopes.TheVariants.{AtOnce}
use Rattle.scf_tool.proofs.ArchitectureLemmas.{joint_is_true}
use Rattle.scf_tool.proofs.CallLemmas.{next_found}
use Rattle.scf_tool.proofs.Common.{◌≡◌, ◌+◌, ◌<◌, ◌++◌, ℕ, AllZip, Bool, Fails, Finding, Holds, List, None, Option, Some, Undecided, Unfinished, [], ap, arith, false, get_or, length, map-append, refl, subst, take, take_more, true, ◌∷◌}
use Rattle.std.specs.Prelude.{◌*◌, map, max}
use Rattle.scf_tool.proofs.SideLemmas.{of_side}
use Rattle.scf_tool.specs.ArchitectureScopes.{scope_of}
use Rattle.scf_tool.specs.Comparisons.{AreFound, AreFoundEach, IsFound, IsFoundOf, IsFoundOfInTurn, limit_of}
use Rattle.scf_tool.specs.Explorations.{AreListed, Explores, ExploresEach, ExploresSides}
use Rattle.scf_tool.specs.Inputs.{IsSideOf, behavior_of_input}
use Rattle.scf_tool.specs.JointFindings.{AreFindings, joint_finding}
use Rattle.scf_tool.specs.declared.findings.CallFinding.{CallFinding}
use Rattle.scf_tool.specs.declared.plan.Pairing.{Pairing}
use Rattle.scf_tool.specs.declared.plan.Shared.{Shared}
use Rattle.scf_tool.specs.declared.sides.SideInput.{SideInput}
use Rattle.scf_tool.specs.declared.sides.SideInput.TheVariants as inputs
use Rattle.scf_tool.specs.internal.Plans.{ArePaired, AreFoundSoFar, AreWalked, IsBesideProfile, IsFoundNext, IsOfProfile, IsProfileBeside}

-- ---- one comparison more

module _ (relation : Relation) (limit : Limit) where
  -- the finding of the next of several
  pub found_more : (total : Option ℕ) (pairings : List Pairing) (i : ℕ) (d : Pairing) (findings : List Finding)
      (shared : Option Shared) (finding : Finding) (after : Option Shared) (findings_after : List Finding)
      → i < length pairings → AreFoundSoFar relation limit total (take i pairings) findings shared
      → IsFoundNext relation limit shared (get_or pairings i d) finding after
      → findings_after ≡ findings ++ finding ∷ []
      → AreFoundSoFar relation limit total (take (i + 1) pairings) findings_after after
  found_more None pairings i d findings None finding None findings_after lt before here is =
      rw (take_more pairings i d lt, is)
      (all_zipped_more (IsFoundOf relation limit) (take i pairings) findings (get_or pairings i d) finding before here)
  found_more (Some total) pairings i d findings (Some shared) finding (Some after) findings_after lt before here is =
      next_found (IsFoundOfInTurn relation limit) total pairings i d findings shared.steps finding after.steps findings_after
      lt before here is
  found_more None pairings i d findings None finding (Some after) findings_after lt before here is = absurd here
  found_more None pairings i d findings (Some shared) finding after findings_after lt before here is = absurd before
  found_more (Some total) pairings i d findings None finding after findings_after lt before here is = absurd before
  found_more (Some total) pairings i d findings (Some shared) finding None findings_after lt before here is = absurd here

  -- those of all
  pub found_each : (total : Option ℕ) (pairings : List Pairing) (findings : List Finding) (shared : Option Shared)
      → AreFoundSoFar relation limit total pairings findings shared
      → AreFoundEach relation limit total pairings findings
  found_each None pairings findings None found = found
  found_each None pairings findings (Some shared) found = absurd found
  found_each (Some total) pairings findings None found = absurd found
  found_each (Some total) pairings findings (Some shared) found = (shared.steps, found)

-- ---- comparisons in turn

module _ {A B F : Type 0} (IsNext : ℕ → B → F → ℕ → Type 0) (f : A → B) where
  -- those of what elements are taken as
  pub found_of_each : (remaining : ℕ) (several : List A) (findings : List F) (after : ℕ)
      → AreFound IsNext remaining (map f several) findings after
      → AreFound (λ before one. IsNext before (f one)) remaining several findings after
  found_of_each remaining [] [] after found = found
  found_of_each remaining [] (finding ∷ findings) after found = absurd found
  found_of_each remaining (one ∷ several) [] after found = absurd found
  found_of_each remaining (one ∷ several) (finding ∷ findings) after found =
      (found.0, found.1, found_of_each found.0 several findings after found.2)

  -- there are as many findings as elements
  pub as_many : (remaining : ℕ) (several : List A) (findings : List F) (after : ℕ)
      → AreFound IsNext remaining (map f several) findings after → length findings ≡ length several
  as_many remaining [] [] after found = refl
  as_many remaining [] (finding ∷ findings) after found = absurd found
  as_many remaining (one ∷ several) [] after found = absurd found
  as_many remaining (one ∷ several) (finding ∷ findings) after found =
      omega (arith, as_many found.0 several findings after found.2)

-- ---- the finding that speaks for one

joint_of_one : (finding : Finding) → joint_finding (finding ∷ []) ≡ finding
joint_of_one (Holds steps) = let same : max steps 0 ≡ steps = omega arith in ap (λ (n : ℕ). Holds n) same
joint_of_one (Fails call left right) = refl
joint_of_one (Undecided side at) = refl
joint_of_one Unfinished = refl

of_only_one : {A : Type 0} (Found : A → Finding → Type 0) (one : A) (findings : List Finding)
    → AllZip Found (one ∷ []) findings → Found one (joint_finding findings)
of_only_one Found one [] each = absurd each
of_only_one Found one (finding ∷ []) each = rw (joint_of_one finding) each.0
of_only_one Found one (finding ∷ second ∷ findings) each = absurd each.1

-- ---- one pairing or call more

pub is_beside : (left : Side) (scope : Scope) (p q : Profile) (pairing : Pairing) → p ≡ q → pairing.left ≡ left
    → IsOfProfile p pairing.right → pairing.over ≡ scope_of scope p.architecture
    → IsBesideProfile left scope q pairing
is_beside left scope p q pairing same left_is right_is over_is =
    subst (λ (own : Profile). IsBesideProfile left scope own pairing) same
    (record { left_is = left_is; right_is = right_is; over_is = over_is })

pub is_apart : (right : Side) (scope : Scope) (p q : Profile) (pairing : Pairing) → p ≡ q
    → IsOfProfile p pairing.left → pairing.right ≡ right → pairing.over ≡ scope_of scope p.architecture
    → IsProfileBeside right scope q pairing
is_apart right scope p q pairing same left_is right_is over_is =
    subst (λ (own : Profile). IsProfileBeside right scope own pairing) same
    (record { left_is = left_is; right_is = right_is; over_is = over_is })

-- the findings of the calls so far
pub found_so_far : (findings : List Finding) (i : ℕ) (d : Finding) (before after : List CallFinding) (call : CallFinding)
    → i < length findings → map (λ (one : CallFinding). one.finding) before ≡ take i findings
    → after ≡ before ++ call ∷ [] → call.finding ≡ get_or findings i d
    → map (λ (one : CallFinding). one.finding) after ≡ take (i + 1) findings
found_so_far findings i d before after call lt are is here =
    rw (is, map-append (λ (one : CallFinding). one.finding) before (call ∷ []), are, here, take_more findings i d lt) refl

-- ---- two sides at once

module _ (comparison : Comparison) (scope : Scope) (left : Side) where
  beside_one : (p : Profile) (pairing : Pairing) (finding : Finding) → IsBesideProfile left scope p pairing
      → IsFoundOf comparison.relation (limit_of comparison.limits) pairing finding
      → IsFound comparison.relation (behavior_of left) (profiles_behavior (p ∷ [])) (scope_of scope p.architecture)
      (limit_of comparison.limits) finding
  beside_one p pairing finding is found = by_right pairing.right is.right_is (rw (is.left_is, is.over_is) at found)
    where
      by_right : (right : Side) → IsOfProfile p right
          → IsFound comparison.relation (behavior_of left) (behavior_of right) (scope_of scope p.architecture)
          (limit_of comparison.limits) finding
          → IsFound comparison.relation (behavior_of left) (profiles_behavior (p ∷ [])) (scope_of scope p.architecture)
          (limit_of comparison.limits) finding
      by_right (sides.Profiles own) own_is found =
          subst (λ (profiles : List Profile). IsFound comparison.relation (behavior_of left) (profiles_behavior profiles)
          (scope_of scope p.architecture) (limit_of comparison.limits) finding) own_is found
      by_right (sides.Stack filters) own_is found = absurd own_is

  each_beside : (profiles : List Profile) (pairings : List Pairing) (findings : List Finding)
      → AllZip (IsBesideProfile left scope) profiles pairings
      → AllZip (IsFoundOf comparison.relation (limit_of comparison.limits)) pairings findings
      → AllZip (λ p. IsFound comparison.relation (behavior_of left) (profiles_behavior (p ∷ [])) (scope_of scope p.architecture)
      (limit_of comparison.limits)) profiles findings
  each_beside [] [] [] are found = tt
  each_beside [] [] (finding ∷ findings) are found = absurd found
  each_beside [] (pairing ∷ pairings) findings are found = absurd are
  each_beside (p ∷ profiles) [] findings are found = absurd are
  each_beside (p ∷ profiles) (pairing ∷ pairings) [] are found = absurd found
  each_beside (p ∷ profiles) (pairing ∷ pairings) (finding ∷ findings) are found =
      (beside_one p pairing finding are.0 found.0, each_beside profiles pairings findings are.1 found.1)

  -- the finding beside a side that isn't taken apart
  beside_whole : (right : SideInput) (pairings : List Pairing) (findings : List Finding)
      → ArePaired false left right scope pairings
      → AllZip (IsFoundOf comparison.relation (limit_of comparison.limits)) pairings findings
      → IsFound comparison.relation (behavior_of left) (behavior_of_input right) scope (limit_of comparison.limits)
      (joint_finding findings)
  beside_whole right pairings findings (side, is, single) found =
      of_side
      (λ (behavior : Behavior). IsFound comparison.relation (behavior_of left) behavior scope (limit_of comparison.limits)
      (joint_finding findings))
      right side is (of_only_one (IsFoundOf comparison.relation (limit_of comparison.limits)) _ findings (rw single at found))

  -- what speaks for the pairings of two sides is what is asked for
  pub found_at_once : (of_each : Bool) (right : SideInput) (tables : Tables) (pairings : List Pairing)
      (findings : List Finding) → ArePaired of_each left right scope pairings
      → AllZip (IsFoundOf comparison.relation (limit_of comparison.limits)) pairings findings
      → AreFindings comparison (AtOnce scope) of_each (behavior_of left) right tables
      (record { joint = joint_finding findings; calls = None })
  found_at_once true (inputs.Profiles loaded) tables pairings findings are found =
      let each = each_beside loaded.profiles pairings findings are.1 found in (
        refl,
        findings,
        each,
        refl,
        joint_is_true comparison.relation scope (behavior_of left) loaded.profiles are.0 (limit_of comparison.limits) findings
            each,
      )
  found_at_once true (inputs.Stack stack) tables pairings findings are found =
      (refl, beside_whole (inputs.Stack stack) pairings findings are found)
  found_at_once false right tables pairings findings are found = (refl, beside_whole right pairings findings are found)

-- ---- walks

abbrev effort_of : Pairing → ℕ
effort_of pairing = (behavior_of pairing.left).size * (behavior_of pairing.right).size

module _ {A : Type 0} (IsOf : A → Pairing → Type 0) (left right : A → Behavior) (over : A → Scope)
    (carries : (P : Behavior → Behavior → Scope → Type 0) (one : A) (pairing : Pairing) → IsOf one pairing
    → P (behavior_of pairing.left) (behavior_of pairing.right) pairing.over → P (left one) (right one) (over one)) where
  abbrev size_of : A → ℕ
  size_of one = (left one).size * (right one).size

  efforts_of : (several : List A) (pairings : List Pairing) → AllZip IsOf several pairings
      → sum_by effort_of pairings ≡ sum_by size_of several
  efforts_of [] [] are = refl
  efforts_of [] (pairing ∷ pairings) are = absurd are
  efforts_of (one ∷ several) [] are = absurd are
  efforts_of (one ∷ several) (pairing ∷ pairings) are =
      let here : effort_of pairing ≡ size_of one =
      carries (λ l r o. effort_of pairing ≡ l.size * r.size) one pairing are.0 refl in
      let later = efforts_of several pairings are.1 in
      rw (sum_by-cons effort_of pairing pairings, sum_by-cons size_of one several) (omega (arith, here, later))

  listed_of : (limit : ℕ) (several : List A) (pairings : List Pairing) (listed : List Regions)
      → AllZip IsOf several pairings
      → AllZip (λ pairing. AreListed (behavior_of pairing.left) (behavior_of pairing.right) pairing.over limit) pairings listed
      → AllZip (λ one. AreListed (left one) (right one) (over one) limit) several listed
  listed_of limit [] [] [] are walked = tt
  listed_of limit [] [] (regions ∷ listed) are walked = absurd walked
  listed_of limit [] (pairing ∷ pairings) listed are walked = absurd are
  listed_of limit (one ∷ several) [] listed are walked = absurd are
  listed_of limit (one ∷ several) (pairing ∷ pairings) [] are walked = absurd walked
  listed_of limit (one ∷ several) (pairing ∷ pairings) (regions ∷ listed) are walked = (
    carries (λ l r o. AreListed l r o limit regions) one pairing are.0 walked.0,
    listed_of limit several pairings listed are.1 walked.1,
  )

  explored_of : (limit : ℕ) (several : List A) (pairings : List Pairing) (listed : Option (List Regions))
      → AllZip IsOf several pairings → Explores pairings limit listed → ExploresEach left right over several limit listed
  explored_of limit several pairings None are below = rw (efforts_of several pairings are) at below
  explored_of limit several pairings (Some listed) are walked =
      (listed_of limit several pairings listed are walked.0, walked.1)

module _ (right : Side) (scope : Scope) where
  beside : (P : Behavior → Behavior → Scope → Type 0) (p : Profile) (pairing : Pairing)
      → IsProfileBeside right scope p pairing → P (behavior_of pairing.left) (behavior_of pairing.right) pairing.over
      → P (profiles_behavior (p ∷ [])) (behavior_of right) (scope_of scope p.architecture)
  beside P p pairing is holds = by_left pairing.left is.left_is (rw (is.right_is, is.over_is) at holds)
    where
      by_left : (left : Side) → IsOfProfile p left → P (behavior_of left) (behavior_of right) (scope_of scope p.architecture)
          → P (profiles_behavior (p ∷ [])) (behavior_of right) (scope_of scope p.architecture)
      by_left (sides.Profiles own) own_is holds = subst (λ (profiles : List Profile). P (profiles_behavior profiles)
          (behavior_of right) (scope_of scope p.architecture)) own_is holds
      by_left (sides.Stack filters) own_is holds = absurd own_is

  abbrev IsWhole : SideInput → Pairing → Type 0
  IsWhole left pairing = IsSideOf left pairing.left × (pairing.right ≡ right) × (pairing.over ≡ scope)

  whole : (P : Behavior → Behavior → Scope → Type 0) (left : SideInput) (pairing : Pairing) → IsWhole left pairing
      → P (behavior_of pairing.left) (behavior_of pairing.right) pairing.over
      → P (behavior_of_input left) (behavior_of right) scope
  whole P left pairing (of_left, right_is, over_is) holds =
      of_side (λ (b : Behavior). P b (behavior_of right) scope) left pairing.left of_left (rw (right_is, over_is) at holds)

  -- what walks over a side beside another one come to
  pub explored_beside : (of_each : Bool) (left : SideInput) (limit : ℕ) (pairings : List Pairing)
      (listed : Option (List Regions)) → AreWalked of_each left right scope pairings → Explores pairings limit listed
      → ExploresSides of_each left (behavior_of right) scope limit listed
  explored_beside true (inputs.Profiles loaded) limit pairings listed are walked =
      explored_of (IsProfileBeside right scope) _ _ _ beside limit loaded.profiles pairings listed are walked
  explored_beside true (inputs.Stack stack) limit pairings listed (side, is, single) walked =
      explored_of IsWhole _ _ _ whole limit (inputs.Stack stack ∷ []) pairings listed (rw single ((is, refl, refl), tt))
      walked
  explored_beside false left limit pairings listed (side, is, single) walked =
      explored_of IsWhole _ _ _ whole limit (left ∷ []) pairings listed (rw single ((is, refl, refl), tt)) walked
