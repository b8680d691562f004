-- The inputs of a command while they are read.
use Rattle.std.specs.Prelude.{◌≡◌, ℕ, List, map, Some}
use Rattle.std.specs.List.{AllZip}
use Rattle.scf_insn.specs.declared.architecture.Architecture.{Architecture}
use Rattle.scf_profile.specs.StatedProfile.{Tables}
use Rattle.scf_request.specs.Contents.{rest_of, rest_of_table}
use Rattle.scf_tool.specs.FilterStacks.{HasStack}
use Rattle.scf_tool.specs.Inputs.{Inputs as ReadInputs, SideBytes, SpellsTable}
use Rattle.scf_tool.specs.Inputs.SideBytes.{OfFilters, OfProfile}
use Rattle.scf_tool.specs.declared.inputs.Inputs.{Inputs}
use Rattle.scf_tool.specs.declared.inputs.SideParts.{SideParts}
use Rattle.scf_tool.specs.declared.inputs.SideParts.TheVariants as parts
use Rattle.scf_tool.specs.declared.sides.OpenSide.{OpenSide}
use Rattle.scf_tool.specs.declared.sides.OpenSide.TheVariants as opens

-- each of these texts is a call table
abbrev pub AreTables : List (Architecture × List ℕ) → Type 0
AreTables texts = (tables : Tables) × AllZip SpellsTable texts tables

-- what the readers of a side have still to give
abbrev pub side_bytes : SideParts → SideBytes
side_bytes (parts.Filters filters) = OfFilters (map rest_of filters.items)
side_bytes (parts.Profile reader) = OfProfile (rest_of reader)

abbrev pub sides_bytes : SideParts × SideParts → SideBytes × SideBytes
sides_bytes sides = (side_bytes sides.0, side_bytes sides.1)

-- what those of inputs have
abbrev pub inputs_of : Inputs → ReadInputs
inputs_of inputs = record {
  left = side_bytes inputs.left;
  right = side_bytes inputs.right;
  tables = map rest_of_table inputs.tables.items;
  rules = inputs.rules;
}

-- the filters of a side are read as this, its profile isn't
abbrev pub IsOpen : SideBytes → OpenSide → Type 0
IsOpen (OfFilters filters) (opens.Stack stack) = HasStack (map Some filters) stack
IsOpen (OfProfile profile) (opens.Profile reader) = rest_of reader ≡ profile
IsOpen bytes side = ⊥
