-- What leads a call to the search of its profile: tests of its architecture, and of its number.
use Rattle.std.specs.Prelude.{◌≡◌, ◌≢◌, ℕ, ◌+◌, ◌*◌, ◌<◌, ◌≤◌, ◌⊎◌, Bool, List, [], length, max}
use Rattle.std.specs.List.{AllByRecursion}
use Rattle.scf_insn.specs.Architectures.{IsOf, row_of}
use Rattle.scf_insn.specs.declared.insn.Insn.{Insn}
use Rattle.scf_insn.specs.declared.record.CallRecord.{CallRecord}
use Rattle.scf_insn.specs.Kernel.{seccomp_ret_kill_process}
use Rattle.scf_insn.specs.Words.{IsRecord, words_of}
use Rattle.scf_compile.specs.declared.dispatch.Search.{Search}
use Rattle.scf_compile.specs.declared.placing.Position.{Position}
use Rattle.scf_compile.specs.internal.Filters.{ArePut}
use Rattle.scf_compile.specs.internal.Placing.{code_from}
use Rattle.scf_compile.specs.internal.Runs.{EndsWithin}
use Rattle.scf_compile.specs.internal.Sound.{AreSound}

-- the value of `arch` in the calls of a search
abbrev pub audit_of : Search → ℕ
audit_of s = (row_of s.architecture).audit

-- each search is in the code
abbrev pub AllStand : List Search → List Insn → Type 0
AllStand searches code = AllByRecursion (λ s. (0 < s.index.0) × (s.index.0 ≤ length code)) searches

-- The search of the call's architecture answers it, within so many steps, and where there is none the answer is
-- KILL_PROCESS.
pub record IsSearched (searches : List Search) (code : List Insn) (call : CallRecord) (answer most : ℕ) : Type 0 where
  pub each : AllByRecursion (λ s. IsOf s.architecture call
      → EndsWithin (words_of call) (code_from s.index code) call.nr answer most) searches
  pub none : AllByRecursion (λ s. IsOf s.architecture call → ⊥) searches → answer ≡ seccomp_ret_kill_process
  pub some : 0 < most

-- From an index on a call, whose number is at least `least`, is led to the search that its number belongs to. All
-- searches are for the call's value of `arch`. Where there are any, their tests stand first.
pub record AreTestsPut (least : ℕ) (searches : List Search) (before after : List Insn) (index : Position)
    : Type 0 where
  pub put : ArePut (Unit {0}) before after index
  pub front : (searches ≡ []) ⊎ (index.0 ≡ length after)
  pub small : length after ≤ length before + 2 * length searches + 1
  pub ends : (call : CallRecord) (answer most : ℕ) → IsRecord call
      → AllByRecursion (λ s. call.arch ≡ audit_of s) searches → least ≤ call.nr
      → IsSearched searches before call answer most
      → EndsWithin (words_of call) (code_from index after) call.nr answer (2 * length searches + most)

-- The code begins with what loads the number of a call, and leads the call to the search that its number belongs to.
pub record IsGatePut (searches : List Search) (before after : List Insn) (index : Position) : Type 0 where
  pub put : ArePut (Unit {0}) before after index
  pub front : index.0 ≡ length after
  pub small : length after ≤ length before + 2 * length searches + 2
  pub ends : (call : CallRecord) (a answer most : ℕ) → IsRecord call
      → AllByRecursion (λ s. call.arch ≡ audit_of s) searches → IsSearched searches before call answer most
      → EndsWithin (words_of call) after a answer (1 + 2 * length searches + most)

-- A call with a value of `arch` is led in three steps to the code that stood, with its number in the accumulator. Other
-- calls get KILL_PROCESS.
pub record IsGated (audit : ℕ) (before after : List Insn) : Type 0 where
  pub some : 0 < length after
  pub small : length after ≤ length before + 4
  pub sound : (asked : Bool) → AreSound asked before → AreSound asked after
  pub matching : (call : CallRecord) (answer most : ℕ) → IsRecord call → call.arch ≡ audit
      → EndsWithin (words_of call) before call.nr answer most → EndsWithin (words_of call) after 0 answer (3 + most)
  pub foreign : (call : CallRecord) → IsRecord call → call.arch ≢ audit
      → EndsWithin (words_of call) after 0 seccomp_ret_kill_process 3

-- The code begins with tests of `arch`, and leads each call to its search.
pub record IsDispatchPut (searches : List Search) (before after : List Insn) (index : Position) : Type 0 where
  pub put : ArePut (Unit {0}) before after index
  pub front : index.0 ≡ length after
  pub small : length after ≤ length before + max 1 (6 * length searches)
  pub ends : (call : CallRecord) (answer most : ℕ) → IsRecord call → IsSearched searches before call answer most
      → EndsWithin (words_of call) after call.arch answer (2 + 2 * length searches + most)
