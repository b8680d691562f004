-- What verdicts claim: what the same findings on a filter and a profile do.
use Rattle.std.specs.Prelude.{ℕ, List}
use Rattle.scf_insn.specs.declared.insn.Insn.{Insn}
use Rattle.scf_insn.specs.declared.record.CallRecord.{CallRecord}
use Rattle.scf_insn.specs.Words.{words_of, IsRecord}
use Rattle.scf_machine.specs.Machine.{RunAnswers}
use Rattle.scf_machine.specs.Precedence.{StackAnswers}
use Rattle.scf_profile.specs.Profile.{Profile}
use Rattle.scf_profile.specs.ProfileAnswers.{ProfileAnswers}
use Rattle.scf_profile.specs.SameAnswers.{AreSame}
use Rattle.scf_profile.specs.declared.relation.Relation.{Relation}
use Rattle.scf_profile.specs.declared.scope.Scope.{Scope}
use Rattle.scf_compare.specs.declared.finding.Finding.{Finding}
use Rattle.scf_compare.specs.declared.finding.Finding.TheVariants as findings
use Rattle.scf_compare.specs.declared.finding.Which.TheVariants.{Left}
use Rattle.scf_compare.specs.declared.verdict.Verdict.{Verdict}
use Rattle.scf_compare.specs.declared.verdict.Verdict.TheVariants.{Same, Differs, Undecided, Unfinished}
use Rattle.scf_profile.specs.Relation.{IsRelated}
use Rattle.scf_profile.specs.Scope.{AllAreRelated, IsInScope}
use Rattle.scf_compare.specs.Findings.{IsFindingDecided, IsFindingWithin}
use Rattle.scf_compare.specs.Sides.{CanEndAt, StackCanEndAt}

-- What a verdict on a filter and a profile claims: that the relation holds of the answers to every call record of the
-- scope; that this record is of the scope, and that they answer it so and so, of which the relation doesn't hold; and
-- that a run of the filter can end at this instruction.
abbrev pub IsTrueBy : (ℕ → ℕ → Type 0) → (CallRecord → Type 0) → (ℕ → Type 0) → (List ℕ → ℕ → Type 0) → Profile
    → Verdict → Type 0
IsTrueBy related in_scope is_index answers p (Same steps) = AllAreRelated related in_scope answers p
IsTrueBy related in_scope is_index answers p (Differs call filter profile) =
    IsRecord call × in_scope call × answers (words_of call) filter.0 × ProfileAnswers p call profile.0
    × (related filter.0 profile.0 → ⊥)
IsTrueBy related in_scope is_index answers p (Undecided at) = is_index at
IsTrueBy related in_scope is_index answers p Unfinished = Unit {0}

-- on a program and a profile, of all call records and the same answers
abbrev pub IsTrueOf : List Insn → Profile → Verdict → Type 0
IsTrueOf insns p verdict = IsTrueBy AreSame (λ call. Unit {0}) (CanEndAt insns) (RunAnswers insns) p verdict

-- on a stack and a profile
abbrev pub IsTrueOfStackBy : Relation → List (List Insn) → Profile → Scope → Verdict → Type 0
IsTrueOfStackBy relation filters p scope verdict =
    IsTrueBy (IsRelated relation) (IsInScope scope) (StackCanEndAt filters) (StackAnswers filters) p verdict

-- of the same answers
abbrev pub IsTrueOfStack : List (List Insn) → Profile → Scope → Verdict → Type 0
IsTrueOfStack filters p scope verdict =
    IsTrueBy AreSame (IsInScope scope) (StackCanEndAt filters) (StackAnswers filters) p verdict

-- the finding that is a verdict, with the filter on the left
abbrev pub finding_of : Verdict → Finding
finding_of (Same steps) = findings.Holds steps
finding_of (Differs call filter profile) = findings.Fails call filter profile
finding_of (Undecided at) = findings.Undecided Left at
finding_of Unfinished = findings.Unfinished

-- The steps of Same are within the limit and the effort, Undecided comes only after a step, and a comparison stays
-- unfinished only where the limit is below the effort.
abbrev pub IsWithin : ℕ → ℕ → Verdict → Type 0
IsWithin limit effort verdict = IsFindingWithin limit effort (finding_of verdict)

-- A verdict decides whether a claim holds, which is that of Same, unless the limit is below the effort.
abbrev pub IsDecided : Type 0 → ℕ → ℕ → Verdict → Type 0
IsDecided claim limit effort verdict = IsFindingDecided claim limit effort (finding_of verdict)
