-- Findings on two sides over the records of a scope, one or several after another.
use Rattle.std.specs.Prelude.{◌≡◌, ◌⊎◌, ◌==◌, ◌*◌, ◌-◌, ◌^◌, ℕ, List, [], ◌∷◌, Option, None, Some, min, if◌then◌else◌}
use Rattle.std.specs.List.{AllZip}
use Rattle.scf_facts.specs.Masks.{AreFew}
use Rattle.scf_compare.specs.declared.budget.Limit.{Limit}
use Rattle.scf_compare.specs.declared.budget.Splits.TheVariants.{AtMost, NoLimit}
use Rattle.scf_compare.specs.declared.finding.Finding.{Finding}
use Rattle.scf_compare.specs.Findings.{AllRelated, IsFindingDecided, IsFindingWithin, IsTrueFinding, LeavesFindingSteps, compared_in}
use Rattle.scf_compare.specs.Sides.{Behavior, behavior_of}
use Rattle.scf_profile.specs.declared.relation.Relation.{Relation}
use Rattle.scf_profile.specs.declared.scope.Scope.{Scope}
use Rattle.scf_request.specs.declared.request.Limits.{Limits}
use Rattle.scf_tool.specs.declared.plan.Pairing.{Pairing}

-- the limit of each comparison; the greatest number of splits stands for no limit of them
abbrev pub limit_of : Limits → Limit
limit_of limits = record {
  steps = limits.each;
  splits = if limits.splits == 2 ^ 64 - 1 then NoLimit else AtMost limits.splits;
}

-- A finding on a relation is true of two sides over the calls of a scope, and within the limit and the effort. It
-- decides between sides whose masks have few bits together, as of plain ones, and between any two if there is no limit
-- of splits.
pub record IsFound (relation : Relation) (left right : Behavior) (scope : Scope) (limit : Limit) (finding : Finding)
    : Type 0 where
  pub holds : IsTrueFinding (compared_in relation scope left right) finding
  pub within : IsFindingWithin limit.steps (left.size * right.size) finding
  pub decided : (limit.splits ≡ NoLimit)
      ⊎ ((masks : ℕ) × AreFew masks × left.is_masked masks × right.is_masked masks)
      → IsFindingDecided (AllRelated (compared_in relation scope left right)) limit.steps (left.size * right.size)
      finding

-- ---- several comparisons

-- The finding on two sides over the records of a scope, within a limit and in no more steps than remain. Those that it
-- takes are subtracted.
pub record IsFoundInTurn (relation : Relation) (left right : Behavior) (scope : Scope) (limit : Limit)
    (remaining : ℕ) (finding : Finding) (after : ℕ) : Type 0 where
  pub is_found : IsFound relation left right scope (record limit { steps = min limit.steps remaining }) finding
  pub spent : LeavesFindingSteps (min limit.steps remaining) (left.size * right.size) remaining finding after

-- Each of several has its finding, one after another, where so many steps remain before them and after.
abbrev pub AreFound : {A F : Type 0} → (ℕ → A → F → ℕ → Type 0) → ℕ → List A → List F → ℕ → Type 0
AreFound IsNext remaining [] [] after = after ≡ remaining
AreFound IsNext remaining (first ∷ several) (finding ∷ findings) after = (between : ℕ)
    × IsNext remaining first finding between × AreFound IsNext between several findings after
AreFound IsNext remaining several findings after = ⊥

-- ---- the comparisons of a plan

-- the finding on the sides of a pairing, within a limit
abbrev pub IsFoundOf : Relation → Limit → Pairing → Finding → Type 0
IsFoundOf relation limit pairing finding =
    IsFound relation (behavior_of pairing.left) (behavior_of pairing.right) pairing.over limit finding

-- that of one of several, in no more steps than remain
abbrev pub IsFoundOfInTurn : Relation → Limit → ℕ → Pairing → Finding → ℕ → Type 0
IsFoundOfInTurn relation limit remaining pairing finding after =
    IsFoundInTurn relation (behavior_of pairing.left) (behavior_of pairing.right) pairing.over limit remaining finding
    after

-- Each pairing has its finding within the limit; where they share a number of steps, one after another in no more than
-- remain of them.
abbrev pub AreFoundEach : Relation → Limit → Option ℕ → List Pairing → List Finding → Type 0
AreFoundEach relation limit None pairings findings = AllZip (IsFoundOf relation limit) pairings findings
AreFoundEach relation limit (Some total) pairings findings =
    (after : ℕ) × AreFound (IsFoundOfInTurn relation limit) total pairings findings after
