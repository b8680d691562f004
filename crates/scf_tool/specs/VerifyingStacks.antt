-- Stacks of filters, call tables and profiles that are read and compared. The bytes of each reader count where the
-- reader tells them.
use Rattle.std.specs.Prelude.{◌≡◌, ◌⊎◌, ℕ, List, All, Option, Some, Result, Ok, Err}
use Rattle.scf_insn.specs.declared.insn.Insn.{Insn}
use Rattle.scf_machine.specs.Plain.{IsPlainProgram}
use Rattle.scf_machine.specs.Precedence.{StackAnswers}
use Rattle.scf_profile.specs.declared.loaded.Loaded.{Loaded}
use Rattle.scf_profile.specs.Profile.{Profile}
use Rattle.scf_profile.specs.PlainProfile.{IsPlainProfile}
use Rattle.scf_profile.specs.Table.{Names}
use Rattle.scf_profile.specs.Scope.{SameAnswersIn}
use Rattle.scf_profile.specs.declared.scope.Scope.{Scope}
use Rattle.scf_compare.specs.declared.verdict.Verdict.{Verdict}
use Rattle.scf_facts.specs.Masks.{AreFew}
use Rattle.scf_compare.specs.Effort.{effort_of_stack}
use Rattle.scf_compare.specs.Masked.{IsMaskedProfile, IsMaskedProgram}
use Rattle.scf_compare.specs.Verdicts.{IsTrueOfStack, IsWithin, IsDecided}
use Rattle.scf_tool.specs.declared.left_out.LeftOut.{LeftOut}
use Rattle.scf_tool.specs.declared.verification.Outcome.{Outcome}
use Rattle.scf_tool.specs.declared.verify_fault.VerifyFault.{VerifyFault}
use Rattle.scf_tool.specs.declared.verify_fault.VerifyFault.TheVariants.{FilterRead, Check, Stack}
use Rattle.scf_tool.specs.FilterStacks.{HasStack, HasNoStack, HaveEnded, HaveStopped}
use Rattle.scf_tool.specs.Verifying.{IsTable, IsLoaded, IsProfileFault}

-- what is left out of a profile that is loaded
abbrev pub left_out_of : Loaded → LeftOut
left_out_of loaded = record { skipped = loaded.skipped; other_architectures = loaded.other_architectures }

-- what an outcome says of that
abbrev pub outcome_left_out : Outcome → LeftOut
outcome_left_out outcome =
    record { skipped = outcome.skipped; other_architectures = outcome.other_architectures }

-- The bytes are a stack of filters, a call table and a profile, of which this is left out, and this holds of that
-- stack, that table and that profile.
pub record AreComparedInputs (filters : List (Option (List ℕ))) (table profile : Option (List ℕ))
    (left_out : Option LeftOut) (holds : List (List Insn) → Names → Profile → Type 0) : Type 0 where
  pub stack : List (List Insn)
  pub names : Names
  pub loaded : Loaded
  pub has_stack : HasStack filters stack
  pub is_table : IsTable table names
  pub is_loaded : IsLoaded profile names loaded
  pub is_left_out : left_out ≡ Some (left_out_of loaded)
  pub compared : holds stack names loaded.profile

-- Why nothing is compared: the filters are no stack, or they are, and the table and the profile state nothing.
abbrev pub IsRefusedStack : List (Option (List ℕ)) → Option (List ℕ) → Option (List ℕ) → VerifyFault → Type 0
IsRefusedStack filters table profile fault = HasNoStack filters fault
    ⊎ ((stack : List (List Insn)) × HasStack filters stack × IsProfileFault table profile fault)

-- A verdict is true of a stack and a profile over the calls of a scope, and within the limit and the effort. It decides
-- between plain filters and a plain profile, and those that test under masks of few bits together.
pub record IsVerdictOn (stack : List (List Insn)) (p : Profile) (scope : Scope) (limit : ℕ) (verdict : Verdict) : Type 0
  where
    pub holds : IsTrueOfStack stack p scope verdict
    pub within : IsWithin limit (effort_of_stack stack p) verdict
    pub decided : All IsPlainProgram stack → IsPlainProfile p
        → IsDecided (SameAnswersIn scope (StackAnswers stack) p) limit (effort_of_stack stack p) verdict
    pub by_masks : (masks : ℕ) → AreFew masks → All (IsMaskedProgram masks) stack → IsMaskedProfile masks p
        → IsDecided (SameAnswersIn scope (StackAnswers stack) p) limit (effort_of_stack stack p) verdict

-- What the comparison of a stack with a profile over a scope, from the bytes of their readers, answers.
abbrev pub VerifiesStack : List (Option (List ℕ)) → Option (List ℕ) → Option (List ℕ) → Scope → ℕ
    → Result Outcome VerifyFault → Type 0
VerifiesStack filters table profile scope limit (Ok outcome) =
    AreComparedInputs filters table profile (Some (outcome_left_out outcome))
    (λ stack names p. IsVerdictOn stack p scope limit outcome.verdict)
VerifiesStack filters table profile scope limit (Err fault) = IsRefusedStack filters table profile fault

-- ---- the readers

-- How the filters' readers are left. They are read first, each after those before it.
abbrev pub LeavesFilterReaders : {R T : Type 0} → (R → Option (List ℕ)) → (R → ℕ)
    → List R → Result T VerifyFault → List R → Type 0
LeavesFilterReaders remaining failures olds (Err (FilterRead fault)) news =
    HaveStopped remaining failures (FilterRead fault) olds news
LeavesFilterReaders remaining failures olds (Err (Check fault)) news =
    HaveStopped remaining failures (Check fault) olds news
LeavesFilterReaders remaining failures olds (Err (Stack fault)) news =
    HaveStopped remaining failures (Stack fault) olds news
LeavesFilterReaders remaining failures olds result news = HaveEnded remaining failures olds news
