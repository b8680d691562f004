-- Two sides over the records that are compared, taken apart as a question asks for.
use Rattle.std.specs.Prelude.{◌≡◌, List, [], ◌∷◌, false, flat_map, map}
use Rattle.std.specs.List.{AllZip, filter_map}
use Rattle.scf_insn.specs.declared.architecture.Architecture.{Architecture}
use Rattle.scf_profile.specs.NamedCalls.{AreCallsOf}
use Rattle.scf_profile.specs.StatedProfile.{Tables}
use Rattle.scf_profile.specs.Table.{Names}
use Rattle.scf_profile.specs.declared.named_call.NamedCall.{NamedCall}
use Rattle.scf_profile.specs.declared.scope.Scope.TheVariants.{All}
use Rattle.scf_tool.specs.ArchitectureScopes.{scope_of, scope_of_call}
use Rattle.scf_compare.specs.declared.side.Side.{Side}
use Rattle.scf_tool.specs.Inputs.{HasNoTable, IsSideOf, SpellsTable}
use Rattle.scf_tool.specs.declared.plan.Pairing.{Pairing}
use Rattle.scf_tool.specs.declared.sides.SideInput.{SideInput as ReadSide}
use Rattle.scf_tool.specs.declared.sides.SideInput.TheVariants.{Profiles, Stack}
use Rattle.scf_tool.specs.declared.verify_fault.VerifyFault.{VerifyFault}
use Rattle.scf_tool.specs.declared.verify_fault.VerifyFault.TheVariants.{Memory}
use Rattle.scf_c.specs.declared.layout.Table.{Table}
use Rattle.scf_c.specs.declared.question.Over.{Over}
use Rattle.scf_c.specs.declared.question.Over.TheVariants as overs
use Rattle.scf_c.specs.Architectures.{architecture_of, tables_of, texts_of}

-- ---- the tables

-- the tables of the architectures that are compared: those of the only profile, if one side is one, and else all
abbrev pub tables_in_scope : ReadSide → ReadSide → List Table → List Table
tables_in_scope (Profiles only) (Stack stack) tables = tables_of only.profiles tables
tables_in_scope (Stack stack) (Profiles only) tables = tables_of only.profiles tables
tables_in_scope left right tables = tables

-- ---- the sides over the records
-- those of each architecture that has a table
abbrev pub of_each : Side → Side → List Table → List Pairing
of_each left right tables =
    map (λ architecture. record { left = left; right = right; over = scope_of All architecture })
    (filter_map (λ table. architecture_of table.architecture) tables)

-- the records of each syscall of an architecture's table, by number
abbrev pub HasCalls : Side → Side → Architecture × Names → List Pairing → Type 0
HasCalls left right table pairings = (calls : List NamedCall) × AreCallsOf table.1 calls
    × (pairings ≡ map
    (λ call. record { left = left; right = right; over = scope_of_call table.0 call.number }) calls)

-- those of each syscall of each table
abbrev pub AreOfCalls : Side → Side → Tables → List Pairing → Type 0
AreOfCalls left right tables pairings = (each : List (List Pairing)) × AllZip (HasCalls left right) tables each
    × (pairings ≡ flat_map (λ pairings. pairings) each)

-- These are asked for.
abbrev pub AreOver : Over → Side → Side → List Table → List Pairing → Type 0
AreOver (overs.AtOnce scope) left right tables pairings =
    pairings ≡ record { left = left; right = right; over = scope } ∷ []
AreOver overs.EachArchitecture left right tables pairings = pairings ≡ of_each left right tables
AreOver overs.EachCall left right tables pairings =
    (read : Tables) × AllZip SpellsTable (texts_of tables) read × AreOfCalls left right read pairings

-- why they aren't known: the first table that is none, or out of memory
abbrev pub AreRecordsRefused : List Table → VerifyFault → Type 0
AreRecordsRefused tables Memory = Unit {0}
AreRecordsRefused tables why = HasNoTable false (texts_of tables) why

-- Two sides that are read, over each set of records that is asked for.
pub record ArePaired (over : Over) (left right : ReadSide) (tables : List Table) (pairings : List Pairing)
    : Type 0 where
  pub on_left : Side
  pub on_right : Side
  pub is_left : IsSideOf left on_left
  pub is_right : IsSideOf right on_right
  pub are_over : AreOver over on_left on_right (tables_in_scope left right tables) pairings
