-- The inputs of a command: two sides, each filters or a profile, and tables, from their bytes.
use Rattle.std.specs.Prelude.{◌≡◌, ◌≢◌, ◌≤◌, ◌<◌, ◌++◌, ℕ, Bool, true, false, List, [], ◌∷◌, length, map, Option, None, Some, Result, Ok, Err, if◌then◌else◌}
use Rattle.std.specs.List.{AllZip}
use Rattle.scf_insn.specs.declared.architecture.Architecture.{Architecture}
use Rattle.scf_insn.specs.declared.input.InputFault.{InputFault}
use Rattle.scf_insn.specs.declared.input.InputFault.TheVariants.{TooLong}
use Rattle.scf_insn.specs.declared.insn.Insn.{Insn}
use Rattle.scf_profile.specs.Limits.{max_text_len}
use Rattle.scf_profile.specs.Loading.{RefusesEachAs, fault_of_only}
use Rattle.scf_profile.specs.StatedProfile.{Tables}
use Rattle.scf_profile.specs.Table.{Names, table_of}
use Rattle.scf_profile.specs.declared.load_fault.LoadFault.{LoadFault}
use Rattle.scf_profile.specs.declared.loaded.LoadedProfiles.{LoadedProfiles}
use Rattle.scf_profile.specs.declared.table_fault.TableFault.TheVariants as tables
use Rattle.scf_compare.specs.declared.side.Side.{Side}
use Rattle.scf_compare.specs.declared.side.Side.TheVariants as sides
use Rattle.scf_compare.specs.Sides.{Behavior, profiles_behavior, stack_behavior}
use Rattle.scf_request.specs.Interpretations.{LoadsEachBy}
use Rattle.scf_tool.specs.FilterStacks.{HasStack, HasNoStack, NoReadFailed}
use Rattle.scf_tool.specs.declared.inputs.TextRules.{TextRules}
use Rattle.scf_tool.specs.declared.left_out.LeftOut.{LeftOut}
use Rattle.scf_tool.specs.declared.owned_table.OwnedTable.{OwnedTable}
use Rattle.scf_tool.specs.declared.sides.SideInput.{SideInput}
use Rattle.scf_tool.specs.declared.sides.SideInput.TheVariants.{Stack, Profiles}
use Rattle.scf_tool.specs.declared.sides.SidesInput.{SidesInput}
use Rattle.scf_tool.specs.declared.verify_fault.VerifyFault.{VerifyFault}
use Rattle.scf_tool.specs.declared.verify_fault.VerifyFault.TheVariants.{Profile as ProfileFault, ProfileRead, Table, TableRead}

-- ---- the bytes

-- the bytes of a side: filters, the oldest first, or a profile
pub data SideBytes : Type 0 where
  OfFilters : (filters : List (List ℕ)) → SideBytes
  OfProfile : (profile : List ℕ) → SideBytes

-- A command on one side has no filters on the right.
pub record Inputs : Type 0 where
  pub left : SideBytes
  pub right : SideBytes
  pub tables : List (Architecture × List ℕ)
  pub rules : TextRules

-- ---- tables

-- a text is short enough, where texts are limited
abbrev pub IsShort : Bool → List ℕ → Type 0
IsShort true text = length text ≤ max_text_len
IsShort false text = Unit {0}

-- it isn't
abbrev pub IsTooLong : Bool → List ℕ → InputFault → Type 0
IsTooLong is_limited text fault = (is_limited ≡ true) × (max_text_len < length text) × (fault ≡ TooLong)

-- a call table of an architecture, however long its text is
abbrev pub SpellsTable : Architecture × List ℕ → Architecture × Names → Type 0
SpellsTable text table = (text.0 ≡ table.0) × (table_of text.1 ≡ Ok table.1)

-- one whose text is short enough
abbrev pub IsTableOf : Bool → Architecture × List ℕ → Architecture × Names → Type 0
IsTableOf is_limited text table = IsShort is_limited text.1 × SpellsTable text table

-- why a text is none, or memory runs out
abbrev pub IsNoTableOf : Bool → List ℕ → VerifyFault → Type 0
IsNoTableOf is_limited text (TableRead fault) = IsTooLong is_limited text fault
IsNoTableOf is_limited text (Table fault) =
    IsShort is_limited text × (fault ≢ tables.Memory → table_of text ≡ Err fault)
IsNoTableOf is_limited text fault = ⊥

-- Of these texts, the first that is none.
pub record HasNoTable (is_limited : Bool) (texts : List (Architecture × List ℕ)) (fault : VerifyFault) : Type 0 where
  pub before : List (Architecture × List ℕ)
  pub text : Architecture × List ℕ
  pub behind : List (Architecture × List ℕ)
  pub whole : texts ≡ before ++ text ∷ behind
  pub tables : Tables
  pub are_tables : AllZip (IsTableOf is_limited) before tables
  pub why : IsNoTableOf is_limited text.1 fault

-- a table with its architecture
abbrev pub named_of : OwnedTable → Architecture × Names
named_of owned = (owned.architecture, owned.table)

-- ---- sides

-- the filters of a side are a stack, which a profile doesn't have, or this is why they are none
abbrev pub ReadsFilters : SideBytes → Option VerifyFault → Type 0
ReadsFilters (OfFilters filters) None = (stack : List (List Insn)) × HasStack (map Some filters) stack
ReadsFilters (OfFilters filters) (Some fault) = NoReadFailed fault × HasNoStack (map Some filters) fault
ReadsFilters (OfProfile profile) None = Unit {0}
ReadsFilters (OfProfile profile) (Some fault) = ⊥

-- The bytes of a side are read as this: a profile states one for each architecture that has a table. Or the profile is
-- refused under the tables; under that of x86-64 alone the fault says if this isn't listed.
abbrev pub ReadsSide : TextRules → Tables → SideBytes → Result SideInput VerifyFault → Type 0
ReadsSide rules tables (OfFilters filters) (Ok (Stack stack)) = HasStack (map Some filters) stack
ReadsSide rules tables (OfProfile text) (Ok (Profiles loaded)) = LoadsEachBy rules.by text tables loaded
ReadsSide rules tables (OfProfile text) (Err (ProfileRead fault)) = IsTooLong rules.is_limited text fault
ReadsSide rules tables (OfProfile text) (Err (ProfileFault fault)) = IsShort rules.is_limited text
    × (of_each : LoadFault) × RefusesEachAs rules.by.reading text tables of_each
    × (fault ≡ (if rules.of_each then of_each else fault_of_only of_each))
ReadsSide rules tables bytes result = ⊥

abbrev pub is_profile : SideBytes → Bool
is_profile (OfFilters filters) = false
is_profile (OfProfile profile) = true

-- The inputs are read as this.
pub record AreRead (inputs : Inputs) (sides : SidesInput) : Type 0 where
  pub are_tables : AllZip (IsTableOf inputs.rules.is_limited) inputs.tables (map named_of sides.tables.items)
  pub is_left : ReadsSide inputs.rules (map named_of sides.tables.items) inputs.left (Ok sides.left)
  pub is_right : ReadsSide inputs.rules (map named_of sides.tables.items) inputs.right (Ok sides.right)
  pub of_each : sides.of_each ≡ inputs.rules.of_each

-- Why they aren't, the first of these: the filters on the left, those on the right, the tables, the profile on the
-- left, the one on the right. It is said of the right side where that stands beside another one of its kind.
pub data AreRefused (inputs : Inputs) : Bool → VerifyFault → Type 0 where
  by_left_filters : (why : VerifyFault) → ReadsFilters inputs.left (Some why) → AreRefused inputs false why
  by_right_filters : (why : VerifyFault) → ReadsFilters inputs.left None → ReadsFilters inputs.right (Some why)
      → AreRefused inputs true why
  by_tables : (why : VerifyFault) → ReadsFilters inputs.left None → ReadsFilters inputs.right None
      → HasNoTable inputs.rules.is_limited inputs.tables why → AreRefused inputs false why
  by_left_profile : (why : VerifyFault) (tables : Tables) → ReadsFilters inputs.left None
      → ReadsFilters inputs.right None → AllZip (IsTableOf inputs.rules.is_limited) inputs.tables tables
      → ReadsSide inputs.rules tables inputs.left (Err why) → AreRefused inputs false why
  by_right_profile : (why : VerifyFault) (tables : Tables) (input : SideInput) → ReadsFilters inputs.right None
      → AllZip (IsTableOf inputs.rules.is_limited) inputs.tables tables
      → ReadsSide inputs.rules tables inputs.left (Ok input) → ReadsSide inputs.rules tables inputs.right (Err why)
      → AreRefused inputs (is_profile inputs.left) why

-- ---- what sides that are read answer

abbrev pub behavior_of_input : SideInput → Behavior
behavior_of_input (Stack stack) = stack_behavior stack
behavior_of_input (Profiles loaded) = profiles_behavior loaded.profiles

-- a side that is read, as it is compared
abbrev pub IsSideOf : SideInput → Side → Type 0
IsSideOf (Stack stack) (sides.Stack filters) = filters.now ≡ stack
IsSideOf (Profiles loaded) (sides.Profiles profiles) = profiles.now ≡ loaded.profiles
IsSideOf input side = ⊥

-- what was left out of a profile
abbrev pub left_out_of_each : LoadedProfiles → LeftOut
left_out_of_each loaded = record { skipped = loaded.skipped; other_architectures = loaded.other_architectures }

-- what was left out of the profile of a side, if it is one
abbrev pub left_out_of_input : SideInput → Option LeftOut
left_out_of_input (Stack stack) = None
left_out_of_input (Profiles loaded) = Some (left_out_of_each loaded)
