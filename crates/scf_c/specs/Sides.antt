-- The sides of comparisons.
use Rattle.std.specs.Prelude.{◌≡◌, List, false, true}
use Rattle.scf_tool.specs.FilterStacks.{HasStack}
use Rattle.scf_tool.specs.declared.sides.SideInput.{SideInput as ReadSide}
use Rattle.scf_tool.specs.declared.sides.SideInput.TheVariants.{Profiles, Stack}
use Rattle.scf_tool.specs.declared.verify_fault.SideFault.{SideFault}
use Rattle.scf_tool.specs.declared.verify_fault.VerifyFault.{VerifyFault}
use Rattle.scf_c.specs.declared.layout.LeftOutCounts.{LeftOutCounts}
use Rattle.scf_c.specs.declared.layout.SideInput.{SideInput}
use Rattle.scf_c.specs.declared.layout.Table.{Table}
use Rattle.scf_c.specs.declared.side.SideKind.{SideKind}
use Rattle.scf_c.specs.declared.side.SideKind.TheVariants.{Profile, Filters}
use Rattle.scf_c.specs.Filters.{IsStackRefused}
use Rattle.scf_c.specs.Layout.{known_bytes}
use Rattle.scf_c.specs.Profiles.{IsLoaded, IsProfileRefused, IsReadUnder, left_out_of, nothing_left_out}

-- ---- what is asked for

-- The number of a side asks for its profile, read so under tables, or for its filters. Of the other nothing is looked
-- at.
abbrev pub IsNumbered : SideInput → List Table → SideKind → Type 0
IsNumbered side tables (Profile reading) = (side.kind ≡ 1) × IsReadUnder side.profile tables reading
IsNumbered side tables Filters = side.kind ≡ 2

-- and the reserved number is 0
abbrev pub IsKind : SideInput → List Table → SideKind → Type 0
IsKind side tables kind = (side.reserved ≡ 0) × IsNumbered side tables kind

-- ---- what is read

-- The bytes of a side are those of a stack, or state these profiles under the tables.
abbrev pub IsRead : SideInput → SideKind → List Table → ReadSide → Type 0
IsRead side (Profile reading) tables (Profiles loaded) = IsLoaded side.profile tables reading loaded
IsRead side Filters tables (Stack stack) = HasStack (known_bytes side.filters.now) stack
IsRead side kind tables read = ⊥

-- why they don't
abbrev pub IsSideRefused : SideInput → SideKind → List Table → VerifyFault → Type 0
IsSideRefused side (Profile reading) tables why = IsProfileRefused side.profile tables reading why
IsSideRefused side Filters tables why = IsStackRefused side.filters.now why

-- The fault of the right side: if the left one is of the same kind, it says which side it is.
abbrev pub fault_of_right : SideKind → SideKind → VerifyFault → SideFault
fault_of_right (Profile left) (Profile right) why = record { beside = true; why = why }
fault_of_right Filters Filters why = record { beside = true; why = why }
fault_of_right left right why = record { beside = false; why = why }

-- how much of a side's profile has no table
abbrev pub left_out_of_side : ReadSide → LeftOutCounts
left_out_of_side (Profiles loaded) = left_out_of loaded
left_out_of_side side = nothing_left_out
