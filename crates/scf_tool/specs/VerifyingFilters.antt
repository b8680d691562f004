-- Filters, call tables and profiles that are read and compared. The bytes of each reader count where the reader tells
-- them.
use Rattle.std.specs.Prelude.{◌≡◌, ◌⊎◌, ℕ, List, Option, Result, Ok, Err}
use Rattle.scf_insn.specs.declared.insn.Insn.{Insn}
use Rattle.scf_machine.specs.Machine.{RunAnswers}
use Rattle.scf_machine.specs.Plain.{IsPlainProgram}
use Rattle.scf_profile.specs.declared.loaded.Loaded.{Loaded}
use Rattle.scf_profile.specs.PlainProfile.{IsPlainProfile}
use Rattle.scf_profile.specs.SameAnswers.{SameAnswers}
use Rattle.scf_profile.specs.Table.{Names}
use Rattle.scf_facts.specs.Masks.{AreFew}
use Rattle.scf_compare.specs.Effort.{effort_of}
use Rattle.scf_compare.specs.Masked.{IsMaskedProfile, IsMaskedProgram}
use Rattle.scf_compare.specs.Verdicts.{IsTrueOf, IsWithin, IsDecided}
use Rattle.scf_tool.specs.declared.verification.Outcome.{Outcome}
use Rattle.scf_tool.specs.declared.verify_fault.VerifyFault.{VerifyFault}
use Rattle.scf_tool.specs.Verifying.{IsAcceptedFilter, IsLoaded, IsNoFilter, IsProfileFault, IsTable}

-- The bytes are a filter, a call table and a profile, whose skipped names and other architectures these are. The
-- verdict is true of that filter and that profile, and decides between them where both are plain, or test under masks
-- of few bits together.
pub record IsVerified (filter table profile : Option (List ℕ)) (limit : ℕ) (outcome : Outcome) : Type 0 where
  pub insns : List Insn
  pub names : Names
  pub loaded : Loaded
  pub is_filter : IsAcceptedFilter filter insns
  pub is_table : IsTable table names
  pub is_loaded : IsLoaded profile names loaded
  pub skipped : outcome.skipped ≡ loaded.skipped
  pub other_architectures : outcome.other_architectures ≡ loaded.other_architectures
  pub holds : IsTrueOf insns loaded.profile outcome.verdict
  pub within : IsWithin limit (effort_of insns loaded.profile) outcome.verdict
  pub decided : IsPlainProgram insns → IsPlainProfile loaded.profile
      → IsDecided (SameAnswers (RunAnswers insns) loaded.profile) limit (effort_of insns loaded.profile) outcome.verdict
  pub by_masks : (masks : ℕ) → AreFew masks → IsMaskedProgram masks insns → IsMaskedProfile masks loaded.profile
      → IsDecided (SameAnswers (RunAnswers insns) loaded.profile) limit (effort_of insns loaded.profile) outcome.verdict

-- What the comparison of a filter with a profile, from the bytes of their readers, answers. The filter is read first.
abbrev pub Verifies : Option (List ℕ) → Option (List ℕ) → Option (List ℕ) → ℕ → Result Outcome VerifyFault → Type 0
Verifies filter table profile limit (Ok outcome) = IsVerified filter table profile limit outcome
Verifies filter table profile limit (Err fault) =
    IsNoFilter filter fault
    ⊎ ((insns : List Insn) × IsAcceptedFilter filter insns × IsProfileFault table profile fault)
