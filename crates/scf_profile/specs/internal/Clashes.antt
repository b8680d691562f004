-- The order of clashes, by which the least conflict is found.
use Rattle.std.specs.Prelude.{◌≡◌, ℕ, ◌≤◌, List, Option, Some, None}
use Rattle.scf_insn.specs.declared.architecture.Architecture.{Architecture}
use Rattle.scf_profile.specs.declared.conflict.Clash.{Clash}
use Rattle.scf_profile.specs.declared.rule.Rule.{Rule}
use Rattle.scf_profile.specs.Loading.{EntriesConflict, IsClash, IsLeastConflict}

-- by the second entry, then by the first, then by the number
pub record IsAtMost (a b : Clash) : Type 0 where
  pub second : a.second ≤ b.second
  pub first : a.second ≡ b.second → a.first ≤ b.first
  pub number : a.second ≡ b.second → a.first ≡ b.first → a.number ≤ b.number

-- none bounds nothing
abbrev pub IsBoundedBy : Option Clash → Clash → Type 0
IsBoundedBy None c = ⊥
IsBoundedBy (Some least) c = IsAtMost least c

-- the clash of a rule and a later one
abbrev pub IsClashOf : Architecture → Rule → Rule → Clash → Type 0
IsClashOf architecture rule later c = IsClash architecture rule later c.first c.second c.number

-- it is bounded, where they have one
abbrev pub IsClashBounded : Architecture → Option Clash → Rule → Rule → Type 0
IsClashBounded architecture least later rule = (c : Clash) → IsClashOf architecture rule later c → IsBoundedBy least c

-- the clash is the least conflict of the rules, and where there is none, they have none
abbrev pub IsLeastClash : Architecture → List Rule → Option Clash → Type 0
IsLeastClash architecture rules None =
    (first second number : ℕ) → EntriesConflict architecture rules first second number → ⊥
IsLeastClash architecture rules (Some c) = IsLeastConflict architecture rules c.number c.first c.second
