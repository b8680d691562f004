-- The stacks of filters that readers have, the oldest first. The bytes of each reader count where it tells them.
use Rattle.std.specs.Prelude.{◌≡◌, ◌≢◌, ◌≤◌, ◌+◌, ◌++◌, ℕ, List, ◌∷◌, Option, Err}
use Rattle.std.specs.List.{AllZip}
use Rattle.scf_insn.specs.declared.encoding.ReadFault.TheVariants as reads
use Rattle.scf_insn.specs.declared.insn.Insn.{Insn}
use Rattle.scf_insn.specs.Kernel.{max_insns_per_path}
use Rattle.scf_machine.specs.Stack.{IsPush, cost_of}
use Rattle.scf_tool.specs.declared.verify_fault.VerifyFault.{VerifyFault}
use Rattle.scf_tool.specs.declared.verify_fault.VerifyFault.TheVariants.{FilterRead, Stack}
use Rattle.scf_tool.specs.Verifying.{HasEnded, IsAcceptedFilter, IsNoFilter, LeavesFilterReader}

-- ---- the filters

-- These are the bytes of accepted filters, few enough for a stack: the 4 of the newest are no part of its total.
pub record HasStack (filters : List (Option (List ℕ))) (stack : List (List Insn)) : Type 0 where
  pub accepted : AllZip IsAcceptedFilter filters stack
  pub total : cost_of stack ≤ max_insns_per_path + 4

-- why a filter isn't pushed on a stack of these
abbrev pub IsNotPushed : List (List Insn) → Option (List ℕ) → VerifyFault → Type 0
IsNotPushed stack bytes (Stack fault) =
    (insns : List Insn) × IsAcceptedFilter bytes insns × IsPush stack insns (Err (fault, insns)) stack
IsNotPushed stack bytes fault = IsNoFilter bytes fault

-- Of these filters, the oldest first, the first that isn't pushed.
pub record HasNoStack (filters : List (Option (List ℕ))) (fault : VerifyFault) : Type 0 where
  pub before : List (Option (List ℕ))
  pub filter : Option (List ℕ)
  pub behind : List (Option (List ℕ))
  pub whole : filters ≡ before ++ filter ∷ behind
  pub stack : List (List Insn)
  pub has_stack : HasStack before stack
  pub why : IsNotPushed stack filter fault

-- No read of a filter failed: it is a part of a bundle that was read before.
abbrev pub NoReadFailed : VerifyFault → Type 0
NoReadFailed fault = fault ≢ FilterRead reads.Read

-- ---- the readers

-- each reader came to its end, and didn't fail
abbrev pub HaveEnded : {R : Type 0} → (R → Option (List ℕ)) → (R → ℕ) → List R → List R → Type 0
HaveEnded remaining failures olds news = AllZip (HasEnded remaining failures) olds news

-- The readers before one have ended, this one is left so, and those behind it aren't asked.
pub record HaveStoppedBy {R : Type 0} (Ended Stopped : R → R → Type 0) (olds news : List R) : Type 0 where
  pub before : List R
  pub before_new : List R
  pub old : R
  pub new : R
  pub behind : List R
  pub olds_are : olds ≡ before ++ old ∷ behind
  pub news_are : news ≡ before_new ++ new ∷ behind
  pub ended : AllZip Ended before before_new
  pub stopped : Stopped old new

-- those of filters, where this is the fault of one
abbrev pub HaveStopped : {R : Type 0} → (R → Option (List ℕ)) → (R → ℕ) → VerifyFault → List R → List R → Type 0
HaveStopped remaining failures fault olds news = HaveStoppedBy (HasEnded remaining failures)
    (λ old new. LeavesFilterReader {T = List Insn} remaining failures old (Err fault) new) olds news
