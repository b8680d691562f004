-- Why a text is refused, in parts.
use Rattle.std.specs.Prelude.{ℕ, ◌<◌, ◌≤◌, List, length}
use Rattle.serde_json.specs.Data.{Data}
use Rattle.scf_insn.specs.declared.architecture.Architecture.{Architecture}
use Rattle.scf_profile.specs.declared.rule.Rule.{Rule}
use Rattle.scf_profile.specs.declared.load_fault.LoadFault.{LoadFault}
use Rattle.scf_profile.specs.declared.load_fault.LoadFault.TheVariants as faults
use Rattle.scf_profile.specs.Limits.{max_text_len}
use Rattle.scf_profile.specs.Loading.{IsText, IsFirstConflict, IsLeastConflict}
use Rattle.scf_profile.specs.Profile.{Profile}

-- the conflict that a fault names is the least of the rules, or the fault is out of memory
abbrev pub NamesLeastConflict : Architecture → List Rule → LoadFault → Type 0
NamesLeastConflict architecture rules faults.Memory = Unit {0}
NamesLeastConflict architecture rules (faults.Conflict number first second) =
    IsLeastConflict architecture rules number first second
NamesLeastConflict architecture rules fault = ⊥

-- the conflict that a fault names is the first of the profiles, or the fault is out of memory
abbrev pub NamesFirstConflict : List Profile → LoadFault → Type 0
NamesFirstConflict profiles faults.Memory = Unit {0}
NamesFirstConflict profiles (faults.Conflict number first second) = IsFirstConflict profiles number first second
NamesFirstConflict profiles fault = ⊥

-- when a text is refused before a value of it is looked at
abbrev pub ParseRefuses : List ℕ → LoadFault → Type 0
ParseRefuses text faults.Memory = Unit {0}
ParseRefuses text faults.Json = (length text ≤ max_text_len) × ((value : Data) → IsText text value → ⊥)
ParseRefuses text faults.TooMany = max_text_len < length text
ParseRefuses text fault = ⊥
