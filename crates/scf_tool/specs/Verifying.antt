-- Filters, call tables and profiles that are read. The bytes of each reader count where the reader tells them.
use Rattle.std.specs.Prelude.{◌≡◌, ◌≢◌, ◌≤◌, ◌⊎◌, ℕ, List, length, Option, Result, Ok, Err, IfSome}
use Rattle.std.specs.List.{AllByRecursion}
use Rattle.std.specs.Io.KnownBytes.{IsAtEnd}
use Rattle.scf_insn.specs.declared.encoding.ReadFault.{ReadFault}
use Rattle.scf_insn.specs.declared.encoding.ReadFault.TheVariants as filters
use Rattle.scf_insn.specs.declared.input.InputFault.{InputFault}
use Rattle.scf_insn.specs.declared.input.InputFault.TheVariants as inputs
use Rattle.scf_insn.specs.declared.insn.Insn.{Insn}
use Rattle.scf_insn.specs.Insn.{IsInsn, program_bytes}
use Rattle.scf_insn.specs.Readings.{IsInput, IsReading}
use Rattle.scf_insn.specs.Streams.{HasFailed}
use Rattle.scf_machine.specs.declared.checker.CheckFault.TheVariants as checks
use Rattle.scf_machine.specs.Checks.{IsFirstFault}
use Rattle.scf_machine.specs.Rules.{IsValidList, KeepsScratchRule}
use Rattle.scf_profile.specs.declared.loaded.Loaded.{Loaded}
use Rattle.scf_profile.specs.declared.table_fault.TableFault.TheVariants as tables
use Rattle.scf_profile.specs.Limits.{max_text_len}
use Rattle.scf_profile.specs.Loading.{Loads, Refuses}
use Rattle.scf_profile.specs.Table.{Names, table_of}
use Rattle.scf_tool.specs.declared.verify_fault.VerifyFault.{VerifyFault}
use Rattle.scf_tool.specs.declared.verify_fault.VerifyFault.TheVariants.{FilterRead, Check, Stack, TableRead, Table, ProfileRead, Profile, Memory}

-- ---- the readers

-- A reader came to its end, and didn't fail.
abbrev pub HasEnded : {R : Type 0} → (R → Option (List ℕ)) → (R → ℕ) → R → R → Type 0
HasEnded remaining failures old new = IsAtEnd (remaining new) × (failures new ≡ failures old)

-- A reader failed where that is the fault, and only there.
abbrev pub HasFailedWhere : {R : Type 0} → Type 0 → (R → ℕ) → R → R → Type 0
HasFailedWhere is_failure failures old new =
    (is_failure → HasFailed (failures old) (failures new)) × ((is_failure → ⊥) → failures new ≡ failures old)

-- How the filter's reader is left. It is read first.
abbrev pub LeavesFilterReader : {R T : Type 0} → (R → Option (List ℕ)) → (R → ℕ)
    → R → Result T VerifyFault → R → Type 0
LeavesFilterReader remaining failures old (Err (FilterRead fault)) new =
    HasFailedWhere (fault ≡ filters.Read) failures old new
LeavesFilterReader remaining failures old result new = HasEnded remaining failures old new

-- How the table's reader is left. It isn't asked before the filter is accepted.
abbrev pub LeavesTableReader : {R T : Type 0} → (R → Option (List ℕ)) → (R → ℕ)
    → R → Result T VerifyFault → R → Type 0
LeavesTableReader remaining failures old (Err (FilterRead fault)) new = new ≡ old
LeavesTableReader remaining failures old (Err (Check fault)) new = new ≡ old
LeavesTableReader remaining failures old (Err (Stack fault)) new = new ≡ old
LeavesTableReader remaining failures old (Err (TableRead fault)) new =
    HasFailedWhere (fault ≡ inputs.Read) failures old new
LeavesTableReader remaining failures old result new = HasEnded remaining failures old new

-- How the profile's reader is left. It isn't asked before the table is read.
abbrev pub LeavesProfileReader : {R T : Type 0} → (R → Option (List ℕ)) → (R → ℕ)
    → R → Result T VerifyFault → R → Type 0
LeavesProfileReader remaining failures old (Err (FilterRead fault)) new = new ≡ old
LeavesProfileReader remaining failures old (Err (Check fault)) new = new ≡ old
LeavesProfileReader remaining failures old (Err (Stack fault)) new = new ≡ old
LeavesProfileReader remaining failures old (Err (TableRead fault)) new = new ≡ old
LeavesProfileReader remaining failures old (Err (Table fault)) new = new ≡ old
LeavesProfileReader remaining failures old (Err (ProfileRead fault)) new =
    HasFailedWhere (fault ≡ inputs.Read) failures old new
LeavesProfileReader remaining failures old result new = HasEnded remaining failures old new

-- ---- what the bytes are

-- these bytes, where they are known, are those of the instructions
abbrev pub IsEncoded : Option (List ℕ) → List Insn → Type 0
IsEncoded bytes insns = IfSome bytes (λ input. input ≡ program_bytes insns) × AllByRecursion IsInsn insns

-- a filter: the bytes of instructions that keep every rule of filters
pub record IsAcceptedFilter (bytes : Option (List ℕ)) (insns : List Insn) : Type 0 where
  pub encoded : IsEncoded bytes insns
  pub valid : IsValidList insns
  pub stored : KeepsScratchRule insns

-- what is read of a reader's bytes, few enough for a limit
abbrev pub ReadsUnder : ℕ → Option (List ℕ) → Result (List ℕ) InputFault → Type 0
ReadsUnder limit bytes result = IfSome bytes (λ input. IsInput (λ (read : List ℕ). read) limit input result)

-- what is read of a filter's bytes
abbrev pub ReadsFilter : Option (List ℕ) → Result (List Insn) ReadFault → Type 0
ReadsFilter bytes result = IfSome bytes (λ input. IsReading (λ (insns : List Insn). insns) input result)

-- a call table: the bytes are few enough, and spell the map
abbrev pub IsTable : Option (List ℕ) → Names → Type 0
IsTable bytes names = IfSome bytes (λ input. (length input ≤ max_text_len) × (table_of input ≡ Ok names))

-- a profile: the JSON value of the bytes and the map state it, with what is left out of it
abbrev pub IsLoaded : Option (List ℕ) → Names → Loaded → Type 0
IsLoaded bytes names loaded = IfSome bytes (λ input. Loads input names loaded)

-- ---- a fault

-- why a reader has no accepted filter: it isn't read, or its instructions aren't accepted, for this fault first
abbrev pub IsNoFilter : Option (List ℕ) → VerifyFault → Type 0
IsNoFilter bytes (FilterRead fault) = ReadsFilter bytes (Err fault)
IsNoFilter bytes (Check fault) = (insns : List Insn) × IsEncoded bytes insns × IsFirstFault insns fault
    × (fault ≢ checks.Memory → IsValidList insns → KeepsScratchRule insns → ⊥)
IsNoFilter bytes fault = ⊥

-- why it has no call table: the bytes spell none, for this fault first, or memory runs out.
abbrev pub IsNoTable : Option (List ℕ) → VerifyFault → Type 0
IsNoTable bytes (TableRead fault) = ReadsUnder max_text_len bytes (Err fault)
IsNoTable bytes (Table fault) =
    IfSome bytes (λ input. (length input ≤ max_text_len) × (fault ≢ tables.Memory → table_of input ≡ Err fault))
IsNoTable bytes fault = ⊥

-- why it has no profile: the bytes are refused under the map of the table, for this fault first
abbrev pub IsNoProfile : Names → Option (List ℕ) → VerifyFault → Type 0
IsNoProfile names bytes (ProfileRead fault) = ReadsUnder max_text_len bytes (Err fault)
IsNoProfile names bytes (Profile fault) =
    IfSome bytes (λ input. (length input ≤ max_text_len) × Refuses input names fault)
IsNoProfile names bytes fault = ⊥

-- why a table and a profile state nothing that is compared: the first that isn't read, or out of memory behind both
abbrev pub IsProfileFault : Option (List ℕ) → Option (List ℕ) → VerifyFault → Type 0
IsProfileFault table profile fault =
    IsNoTable table fault ⊎ ((names : Names) × IsTable table names × (IsNoProfile names profile fault
    ⊎ ((loaded : Loaded) × IsLoaded profile names loaded × (fault ≡ Memory))))
