-- Pairings of the sides of a command, and what is found of several so far.
use Rattle.std.specs.Prelude.{◌≡◌, ◌∷◌, [], ℕ, Bool, true, List, Option, None, Some}
use Rattle.std.specs.List.{AllZip}
use Rattle.scf_compare.specs.declared.budget.Limit.{Limit}
use Rattle.scf_compare.specs.declared.finding.Finding.{Finding}
use Rattle.scf_compare.specs.declared.side.Side.{Side}
use Rattle.scf_compare.specs.declared.side.Side.TheVariants as sides
use Rattle.scf_insn.specs.declared.architecture.Architecture.{Architecture}
use Rattle.scf_profile.specs.Profile.{AreOfApart, Profile}
use Rattle.scf_profile.specs.declared.named_call.NamedCall.{NamedCall}
use Rattle.scf_profile.specs.declared.relation.Relation.{Relation}
use Rattle.scf_profile.specs.declared.scope.Scope.{Scope}
use Rattle.scf_tool.specs.ArchitectureScopes.{scope_of, scope_of_call}
use Rattle.scf_tool.specs.Comparisons.{AreFound, IsFoundOf, IsFoundOfInTurn}
use Rattle.scf_tool.specs.Inputs.{IsSideOf}
use Rattle.scf_tool.specs.declared.plan.Pairing.{Pairing}
use Rattle.scf_tool.specs.declared.plan.Shared.{Shared}
use Rattle.scf_tool.specs.declared.sides.SideInput.{SideInput}
use Rattle.scf_tool.specs.declared.sides.SideInput.TheVariants as inputs

-- ---- several comparisons

-- what one of several finds, and what it leaves of shared steps
abbrev pub IsFoundNext : Relation → Limit → Option Shared → Pairing → Finding → Option Shared → Type 0
IsFoundNext relation limit None pairing finding None = IsFoundOf relation limit pairing finding
IsFoundNext relation limit (Some shared) pairing finding (Some after) =
    IsFoundOfInTurn relation limit shared.steps pairing finding after.steps
IsFoundNext relation limit shared pairing finding after = ⊥

-- what several find, and what they leave
abbrev pub AreFoundSoFar : Relation → Limit → Option ℕ → List Pairing → List Finding → Option Shared → Type 0
AreFoundSoFar relation limit None pairings findings None = AllZip (IsFoundOf relation limit) pairings findings
AreFoundSoFar relation limit (Some total) pairings findings (Some after) =
    AreFound (IsFoundOfInTurn relation limit) total pairings findings after.steps
AreFoundSoFar relation limit total pairings findings after = ⊥

-- ---- pairings

-- a profile by itself, as a side
abbrev pub IsOfProfile : Profile → Side → Type 0
IsOfProfile p (sides.Profiles own) = own.now ≡ p ∷ []
IsOfProfile p side = ⊥

-- a side beside a profile, over its records of a scope
pub record IsBesideProfile (left : Side) (scope : Scope) (p : Profile) (pairing : Pairing) : Type 0 where
  pub left_is : pairing.left ≡ left
  pub right_is : IsOfProfile p pairing.right
  pub over_is : pairing.over ≡ scope_of scope p.architecture

-- a profile beside a side, over its records of a scope
pub record IsProfileBeside (right : Side) (scope : Scope) (p : Profile) (pairing : Pairing) : Type 0 where
  pub left_is : IsOfProfile p pairing.left
  pub right_is : pairing.right ≡ right
  pub over_is : pairing.over ≡ scope_of scope p.architecture

-- a side that is read, beside another one: several profiles stand each by itself
abbrev pub AreWalked : Bool → SideInput → Side → Scope → List Pairing → Type 0
AreWalked true (inputs.Profiles loaded) right scope pairings =
    AllZip (IsProfileBeside right scope) loaded.profiles pairings
AreWalked of_each left right scope pairings = (side : Side) × IsSideOf left side
    × (pairings ≡ record { left = side; right = right; over = scope } ∷ [])

-- a side beside one that is read: several profiles stand each by itself
abbrev pub ArePaired : Bool → Side → SideInput → Scope → List Pairing → Type 0
ArePaired true left (inputs.Profiles loaded) scope pairings =
    AreOfApart loaded.profiles × AllZip (IsBesideProfile left scope) loaded.profiles pairings
ArePaired of_each left right scope pairings = (side : Side) × IsSideOf right side
    × (pairings ≡ record { left = left; right = side; over = scope } ∷ [])

-- two sides over the records of a call
abbrev pub pairing_of_call : Side → Side → Architecture → NamedCall → Pairing
pairing_of_call left right architecture call =
    record { left = left; right = right; over = scope_of_call architecture call.number }
