-- Why filters and texts are refused, and a stack's decision as numbers.
use Rattle.std.specs.Prelude.{◌≢◌, ℕ, List, [], ◌∷◌, Option, Some, None, Err}
use Rattle.scf_insn.specs.declared.encoding.ReadFault.TheVariants as reads
use Rattle.scf_machine.specs.declared.stack.DecidingInsn.{DecidingInsn}
use Rattle.scf_text.specs.Faults.{IsFault, fault_of}
use Rattle.scf_text.specs.declared.fault.TextFault.{TextFault}
use Rattle.scf_tool.specs.FilterStacks.{HasNoStack, NoReadFailed}
use Rattle.scf_tool.specs.Verifying.{IsNoFilter, ReadsFilter}
use Rattle.scf_tool.specs.declared.verify_fault.VerifyFault.{VerifyFault}
use Rattle.scf_tool.specs.declared.verify_fault.VerifyFault.TheVariants.{FilterRead, Memory}
use Rattle.scf_c.specs.declared.layout.Bytes.{Bytes}
use Rattle.scf_c.specs.declared.layout.DecisionNumbers.{DecisionNumbers}
use Rattle.scf_c.specs.Layout.{known_bytes}

-- Why the bytes are no accepted filter. It isn't that they can't be read.
abbrev pub IsFilterRefused : List ℕ → VerifyFault → Type 0
IsFilterRefused bytes why = IsNoFilter (Some bytes) why × NoReadFailed why

-- why the filters are no stack, or out of memory, which may come at any time
abbrev pub IsStackRefused : List Bytes → VerifyFault → Type 0
IsStackRefused filters Memory = Unit {0}
IsStackRefused filters why = HasNoStack (known_bytes filters) why × NoReadFailed why

-- why the bytes are no list of instructions
abbrev pub IsListRefused : List ℕ → VerifyFault → Type 0
IsListRefused bytes (FilterRead fault) = ReadsFilter (Some bytes) (Err fault) × (fault ≢ reads.Read)
IsListRefused bytes why = ⊥

-- why a text spells no instructions: its first fault, or out of memory
abbrev pub IsTextRefused : List ℕ → TextFault → Type 0
IsTextRefused text why = IsFault why (fault_of text)

-- ---- a stack's decision

-- an answer, and the instruction that gives it: none if there is no filter
abbrev pub decided_by : ℕ → Option DecidingInsn → DecisionNumbers
decided_by answer None =
    record { answer = answer; has_filter = 0; filter = 0; index = 0; reserved = 0 ∷ 0 ∷ 0 ∷ 0 ∷ [] }
decided_by answer (Some insn) = record {
  answer = answer;
  has_filter = 1;
  filter = insn.filter;
  index = insn.index;
  reserved = 0 ∷ 0 ∷ 0 ∷ 0 ∷ [];
}

abbrev pub no_decision : DecisionNumbers
no_decision = decided_by 0 None
