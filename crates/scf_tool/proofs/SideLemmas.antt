-- Sides that are read, and what the comparer is given of them.
use Rattle.scf_compare.specs.declared.side.Side.{Side}
use Rattle.scf_compare.specs.declared.side.Side.TheVariants as sides
use Rattle.scf_compare.specs.Sides.{Behavior, behavior_of, profiles_behavior, stack_behavior}
use Rattle.scf_profile.specs.Profile.{Profile}
use Rattle.scf_tool.proofs.Common.{Insn, List, None, subst}
use Rattle.scf_tool.specs.Inputs.{IsSideOf, ReadsFilters, SideBytes, behavior_of_input}
use Rattle.scf_tool.specs.Inputs.SideBytes.{OfFilters, OfProfile}
use Rattle.scf_tool.specs.declared.sides.OpenSide.{OpenSide}
use Rattle.scf_tool.specs.declared.sides.OpenSide.TheVariants as opens
use Rattle.scf_tool.specs.declared.sides.SideInput.{SideInput}
use Rattle.scf_tool.specs.declared.sides.SideInput.TheVariants as inputs
use Rattle.scf_tool.specs.internal.Sides.{IsOpen}

module _ (P : Behavior → Type 0) where
  -- what holds of the comparer's side holds of the one that is read
  pub of_side : (input : SideInput) (side : Side) → IsSideOf input side → P (behavior_of side)
      → P (behavior_of_input input)
  of_side (inputs.Stack stack) (sides.Stack filters) is holds =
      subst (λ (s : List (List Insn)). P (stack_behavior s)) is holds
  of_side (inputs.Stack stack) (sides.Profiles profiles) is holds = absurd is
  of_side (inputs.Profiles loaded) (sides.Stack filters) is holds = absurd is
  of_side (inputs.Profiles loaded) (sides.Profiles profiles) is holds =
      subst (λ (ps : List Profile). P (profiles_behavior ps)) is holds

-- the filters of a side that is open are a stack
pub open_has_stack : (bytes : SideBytes) (side : OpenSide) → IsOpen bytes side → ReadsFilters bytes None
open_has_stack (OfFilters filters) (opens.Stack stack) is = (stack, is)
open_has_stack (OfFilters filters) (opens.Profile reader) is = absurd is
open_has_stack (OfProfile profile) side is = tt
