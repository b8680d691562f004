-- The syscall tables of architectures, and the stubs of their syscalls.
use Rattle.std.specs.Prelude.{◌≡◌, ◌==◌, ◌≤◌, ◌+◌, ◌||◌, ℕ, Bool, false, List, ◌∷◌, All, Option, None, IsSome}
use Rattle.std.specs.Prelude.{count_by, option_map, if◌then◌else◌}
use Rattle.std.specs.List.{filter, filter_map, find, list_any, position_or_len}
use Rattle.std.specs.Option.{option_map_or}
use Rattle.scf_insn.specs.Architectures.{architectures, row_of}
use Rattle.scf_insn.specs.declared.architecture.Architecture.{Architecture}
use Rattle.scf_profile.specs.Profile.{Profile}
use Rattle.scf_profile.specs.StatedProfile.{is_named}
use Rattle.scf_profile.specs.declared.reading.Reading.{Reading}
use Rattle.scf_profile.specs.declared.reading.Reading.TheVariants.{Strict, Sandbox}
use Rattle.scf_request.specs.declared.interpretation.Stub.{Stub}
use Rattle.scf_c.specs.declared.layout.Table.{Table}

-- an architecture's number: its position among all of them, counted from 1
abbrev pub architecture_number : Architecture → ℕ
architecture_number architecture =
    position_or_len (λ listed. is_named (row_of listed).name architecture) architectures + 1

-- the architecture with a number
abbrev pub architecture_of : ℕ → Option Architecture
architecture_of number = find (λ architecture. architecture_number architecture == number) architectures

-- A table's numbers have a meaning.
pub record IsMeant (table : Table) : Type 0 where
  pub architecture : IsSome (architecture_of table.architecture)
  pub stub : table.has_stub ≤ 1
  pub reserved : table.reserved ≡ 0

-- how many tables have an architecture with this number
abbrev pub count_for : ℕ → List Table → ℕ
count_for number tables = count_by (λ table. table.architecture == number) tables

-- The numbers of each table have a meaning, and no two tables are for one architecture.
pub record AreMeant (tables : List Table) : Type 0 where
  pub each : All (λ table. IsMeant table × (count_for table.architecture tables ≤ 1)) tables

-- the architectures and the texts of tables whose numbers have a meaning, in their order
abbrev pub texts_of : List Table → List (Architecture × List ℕ)
texts_of tables = filter_map
    (λ table. option_map (λ architecture. (architecture, table.bytes.now)) (architecture_of table.architecture)) tables

-- the stub of the syscalls that a table numbers
abbrev pub stub_of : Table → Option Stub
stub_of table =
    if table.has_stub == 0 then None
    else option_map (λ architecture. record { architecture = architecture; first = table.stub })
    (architecture_of table.architecture)

-- the stubs of tables, in their order
abbrev pub stubs_of : List Table → List Stub
stubs_of tables = filter_map stub_of tables

-- ---- tables of some architectures

-- a table is that of an architecture with one of these names
abbrev pub has_name : List (List ℕ) → Table → Bool
has_name names table =
    option_map_or (λ architecture. list_any (λ name. is_named name architecture) names)
    (architecture_of table.architecture) false

-- the number of the machine's own architecture: x86-64 if it has a table, and else aarch64
abbrev pub own_number : List Table → ℕ
own_number tables = if count_for 1 tables == 0 then 4 else 1

-- A table is that of the machine's own architecture, which a runtime adds to the names, and for which no names stand.
abbrev pub is_own : Reading → List (List ℕ) → List Table → Table → Bool
is_own Strict (name ∷ names) tables table = false
is_own Sandbox (name ∷ names) tables table = false
is_own reading names tables table = table.architecture == own_number tables

-- the tables of the architectures that a profile with these names lists
abbrev pub listed_of : Reading → List (List ℕ) → List Table → List Table
listed_of reading names tables = filter (λ table. is_own reading names tables table || has_name names table) tables

-- the tables of architectures that have one of these profiles
abbrev pub has_profile : List Profile → Table → Bool
has_profile profiles table = list_any (λ p. architecture_number p.architecture == table.architecture) profiles

abbrev pub tables_of : List Profile → List Table → List Table
tables_of profiles tables = filter (has_profile profiles) tables
