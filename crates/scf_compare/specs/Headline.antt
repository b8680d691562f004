-- The headline, read off what the contracts promise: of an accepted program by `check`, and of verdicts by
-- `compare_stack`, and with the law `finding_is_verdict` by `compare_sides`.
use Rattle.std.specs.Prelude.{◌≤◌, ℕ, List, length}
use Rattle.scf_insn.specs.declared.answer.Answer.{Answer}
use Rattle.scf_insn.specs.declared.insn.Insn.{Insn}
use Rattle.scf_insn.specs.declared.record.CallRecord.{CallRecord}
use Rattle.scf_insn.specs.Words.{IsRecord, words_of}
use Rattle.scf_machine.specs.Machine.{RunsSafely, IsRun}
use Rattle.scf_machine.specs.Precedence.{StackAnswers}
use Rattle.scf_machine.specs.Rules.{IsFilter}
use Rattle.scf_profile.specs.Profile.{Profile, IsProfile}
use Rattle.scf_profile.specs.ProfileAnswers.{ProfileAnswers}
use Rattle.scf_profile.specs.declared.relation.Relation.{Relation}
use Rattle.scf_profile.specs.declared.scope.Scope.{Scope}
use Rattle.scf_compare.specs.declared.verdict.Verdict.TheVariants.{Same, Differs}
use Rattle.scf_profile.specs.Relation.{IsRelated}
use Rattle.scf_profile.specs.Scope.{IsInScope}
use Rattle.scf_compare.specs.Verdicts.{IsTrueOfStackBy}

-- Over every call record a program that keeps the rules runs to an answer and never faults, and every run of it takes
-- at most as many steps as it has instructions.
abbrev pub EveryRunEnds : Type 0
EveryRunEnds =
    (insns : List Insn) (call : CallRecord) → IsFilter insns → IsRecord call
    → RunsSafely insns (words_of call)
    × ((answer steps : ℕ) → IsRun insns (words_of call) answer steps → steps ≤ length insns)

-- The answers of a stack and of a profile to a call, whichever they are, are related.
abbrev pub AreRelated : Relation → List (List Insn) → Profile → CallRecord → Type 0
AreRelated relation filters p call =
    (filter profile : ℕ) → StackAnswers filters (words_of call) filter → ProfileAnswers p call profile
    → IsRelated relation filter profile

-- Where the verdict is Same, the answers to every call record of the scope are related.
abbrev pub SameIsTrue : Type 0
SameIsTrue =
    (relation : Relation) (filters : List (List Insn)) (p : Profile) (scope : Scope) (steps : ℕ) → IsProfile p
    → IsTrueOfStackBy relation filters p scope (Same steps)
    → (call : CallRecord) → IsRecord call → IsInScope scope call → AreRelated relation filters p call

-- Where it is Differs, those to its record, which is one of the scope, aren't.
abbrev pub DiffersIsShown : Type 0
DiffersIsShown =
    (relation : Relation) (filters : List (List Insn)) (p : Profile) (scope : Scope) (call : CallRecord)
    (filter profile : Answer) → IsTrueOfStackBy relation filters p scope (Differs call filter profile)
    → IsRecord call × IsInScope scope call × (AreRelated relation filters p call → ⊥)

-- The headline: every run of an accepted program ends in an answer within as many steps as it has instructions and
-- never faults; a Same is true of every call record of the scope; a Differs shows a record that is answered otherwise.
pub record Headline : Type 0 where
  pub every_run_ends : EveryRunEnds
  pub same_is_true : SameIsTrue
  pub differs_is_shown : DiffersIsShown
