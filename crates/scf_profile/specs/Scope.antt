-- Which call records are compared.
use Rattle.std.specs.Prelude.{◌≤◌, ℕ, List}
use Rattle.scf_insn.specs.Architectures.{IsOf}
use Rattle.scf_insn.specs.declared.architecture.Architecture.TheVariants.{X8664}
use Rattle.scf_insn.specs.declared.record.CallRecord.{CallRecord}
use Rattle.scf_insn.specs.Words.{IsRecord}
use Rattle.scf_profile.specs.Profile.{Profile}
use Rattle.scf_profile.specs.SameAnswers.{AnswersRelated, AreSame}
use Rattle.scf_profile.specs.declared.relation.Relation.{Relation}
use Rattle.scf_profile.specs.declared.scope.Scope.{Scope}
use Rattle.scf_profile.specs.declared.scope.Scope.TheVariants.{All, Native, Numbers}
use Rattle.scf_profile.specs.Relation.{IsRelated}

-- every record, those of x86-64 with a number that x32 calls don't have, or those of an architecture with a number of a
-- range, whose ends belong to it
abbrev pub IsInScope : Scope → CallRecord → Type 0
IsInScope All call = Unit {0}
IsInScope Native call = IsOf X8664 call
IsInScope (Numbers architecture first last) call = IsOf architecture call × (first ≤ call.nr) × (call.nr ≤ last)

-- a relation holds of the answers to every call record of the scope
abbrev pub AllAreRelated : (ℕ → ℕ → Type 0) → (CallRecord → Type 0) → (List ℕ → ℕ → Type 0) → Profile → Type 0
AllAreRelated related in_scope answers p =
    (call : CallRecord) → IsRecord call → in_scope call → AnswersRelated related answers p call

abbrev pub RelatedAnswersIn : Relation → Scope → (List ℕ → ℕ → Type 0) → Profile → Type 0
RelatedAnswersIn relation scope answers p = AllAreRelated (IsRelated relation) (IsInScope scope) answers p

-- every call record of the scope is answered alike
abbrev pub SameAnswersIn : Scope → (List ℕ → ℕ → Type 0) → Profile → Type 0
SameAnswersIn scope answers p = AllAreRelated AreSame (IsInScope scope) answers p
