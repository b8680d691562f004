-- What findings claim.
use Rattle.std.specs.Prelude.{◌≡◌, ◌+◌, ◌<◌, ◌≤◌, ℕ, List}
use Rattle.scf_insn.specs.declared.record.CallRecord.{CallRecord}
use Rattle.scf_insn.specs.Words.{words_of, IsRecord}
use Rattle.scf_profile.specs.declared.relation.Relation.{Relation}
use Rattle.scf_profile.specs.declared.scope.Scope.{Scope}
use Rattle.scf_profile.specs.Relation.{IsRelated}
use Rattle.scf_profile.specs.Scope.{IsInScope}
use Rattle.scf_compare.specs.declared.finding.Finding.{Finding}
use Rattle.scf_compare.specs.declared.finding.Finding.TheVariants.{Holds, Fails, Undecided, Unfinished}
use Rattle.scf_compare.specs.declared.finding.Which.{Which}
use Rattle.scf_compare.specs.declared.finding.Which.TheVariants.{Left, Right}
use Rattle.scf_compare.specs.declared.side.Side.{Side}
use Rattle.scf_compare.specs.Sides.{Behavior, behavior_of}

-- What is compared: two sides, over these call records, by a relation of their answers.
pub record Compared : Type 1 where
  pub in_scope : CallRecord → Type 0
  pub related : ℕ → ℕ → Type 0
  pub left : Behavior
  pub right : Behavior

abbrev pub compared_in : Relation → Scope → Behavior → Behavior → Compared
compared_in by over left right = record {
  in_scope = IsInScope over;
  related = IsRelated by;
  left = left;
  right = right;
}

abbrev pub compared_sides : Relation → Scope → Side → Side → Compared
compared_sides by over left right = compared_in by over (behavior_of left) (behavior_of right)

-- both sides answer the words of a call, and the relation holds of these answers
pub record WordsRelated (compared : Compared) (words : List ℕ) : Type 0 where
  pub left : ℕ
  pub right : ℕ
  pub of_left : compared.left.answers words left
  pub of_right : compared.right.answers words right
  pub are_related : compared.related left right

-- the relation holds of the answers to every call record of the scope
abbrev pub AllRelated : Compared → Type 0
AllRelated compared =
    (call : CallRecord) → IsRecord call → compared.in_scope call → WordsRelated compared (words_of call)

-- An undecided run of this side ends at this instruction: of the right one only where it returns the accumulator, whose
-- value isn't known.
abbrev pub IsOpenEnd : Compared → Which → ℕ → Type 0
IsOpenEnd compared Left at = compared.left.ends_at at
IsOpenEnd compared Right at = compared.right.is_open_at at

-- What a finding claims: that the relation holds of the answers to every call record of the scope; that this record is
-- of the scope and the sides answer it so and so, of which the relation doesn't hold; and that a run ends here.
abbrev pub IsTrueFinding : Compared → Finding → Type 0
IsTrueFinding compared (Holds steps) = AllRelated compared
IsTrueFinding compared (Fails call left right) =
    IsRecord call × compared.in_scope call × compared.left.answers (words_of call) left.0
    × compared.right.answers (words_of call) right.0 × (compared.related left.0 right.0 → ⊥)
IsTrueFinding compared (Undecided side at) = IsOpenEnd compared side at
IsTrueFinding compared Unfinished = Unit {0}

-- The steps of Holds are within the limit and the effort, Undecided comes only after a step, and a comparison stays
-- unfinished only where the limit is below the effort.
abbrev pub IsFindingWithin : ℕ → ℕ → Finding → Type 0
IsFindingWithin limit effort (Holds steps) = (steps ≤ limit) × (steps ≤ effort)
IsFindingWithin limit effort (Fails call left right) = Unit {0}
IsFindingWithin limit effort (Undecided side at) = 0 < limit
IsFindingWithin limit effort Unfinished = limit < effort

-- So many steps were taken, of which Holds tells the number: a comparison that stays unfinished takes as many as the
-- limit.
abbrev pub IsStepCount : ℕ → Finding → ℕ → Type 0
IsStepCount limit (Holds steps) taken = taken ≡ steps
IsStepCount limit (Fails call left right) taken = 0 < taken
IsStepCount limit (Undecided side at) taken = 0 < taken
IsStepCount limit Unfinished taken = taken ≡ limit

-- they are within the limit and the effort
pub record AreSteps (limit effort : ℕ) (finding : Finding) (taken : ℕ) : Type 0 where
  pub within_limit : taken ≤ limit
  pub within_effort : taken ≤ effort
  pub of_finding : IsStepCount limit finding taken

-- what is left of a number of steps once those of a comparison are taken from it
pub record LeavesFindingSteps (limit effort old : ℕ) (finding : Finding) (new : ℕ) : Type 0 where
  pub taken : ℕ
  pub are : AreSteps limit effort finding taken
  pub rest : new + taken ≡ old

-- A finding decides whether a claim holds, which is that of Holds, unless the limit is below the effort.
abbrev pub IsFindingDecided : Type 0 → ℕ → ℕ → Finding → Type 0
IsFindingDecided claim limit effort (Holds steps) = claim
IsFindingDecided claim limit effort (Fails call left right) = claim → ⊥
IsFindingDecided claim limit effort (Undecided side at) = ⊥
IsFindingDecided claim limit effort Unfinished = limit < effort
