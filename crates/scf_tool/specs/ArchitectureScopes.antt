-- Over which records of an architecture sides are compared.
use Rattle.std.specs.Prelude.{◌≡◌, ℕ, ◌+◌, ◌-◌, ◌^◌, List, ◌∷◌, [], Contains, Ok, None}
use Rattle.std.specs.FinMap.{get}
use Rattle.scf_insn.specs.Architectures.{row_of}
use Rattle.scf_insn.specs.declared.architecture.Architecture.{Architecture}
use Rattle.scf_profile.specs.Scope.{IsInScope}
use Rattle.scf_profile.specs.Table.{Names, table_of}
use Rattle.scf_profile.specs.declared.scope.Scope.{Scope}
use Rattle.scf_profile.specs.declared.scope.Scope.TheVariants.{Numbers}
use Rattle.scf_request.specs.Requests.{HasRecord}

-- the records of an architecture, where the scope is a range those with a number of it
abbrev pub scope_of : Scope → Architecture → Scope
scope_of (Numbers each first last) architecture = Numbers architecture first last
scope_of scope architecture = Numbers architecture 0 (2 ^ 32 - 1)

-- The records of a syscall that an architecture's table has under a number. In a record the number is that of the table
-- behind the architecture's first one.
abbrev pub scope_of_call : Architecture → ℕ → Scope
scope_of_call architecture number =
    Numbers architecture ((row_of architecture).first + number) ((row_of architecture).first + number)

-- the scope has a record of an architecture that has a table: one with a number of it, where it is a range
abbrev pub HasRecordAmong : List (Architecture × List ℕ) → Scope → Type 0
HasRecordAmong tables scope = (table : Architecture × List ℕ) × Contains tables table
    × HasRecord (IsInScope (scope_of scope table.0))

-- the text of the only table is a call table that names no call
abbrev pub NameNoCall : List (Architecture × List ℕ) → Type 0
NameNoCall tables = (table : Architecture × List ℕ) × (tables ≡ table ∷ [])
    × (names : Names) × (table_of table.1 ≡ Ok names) × ((name : List ℕ) → get names name ≡ None)
