-- What a text and call tables are loaded as, and when they are refused.
use Rattle.std.specs.Prelude.{◌≡◌, ℕ, ◌<◌, ◌≤◌, ◌⊎◌, List, [], ◌∷◌, ◌++◌, length, All, None, Some, Result, Ok, Err, IsUtf8, Any}
use Rattle.scf_insn.specs.declared.architecture.Architecture.{Architecture}
use Rattle.scf_insn.specs.declared.architecture.Architecture.TheVariants.{X8664}
use Rattle.serde_json.specs.Data.{Data}
use Rattle.serde_json.specs.Read.{read}
use Rattle.scf_profile.specs.declared.rule.Rule.{Rule}
use Rattle.scf_profile.specs.declared.load_fault.LoadFault.{LoadFault}
use Rattle.scf_profile.specs.declared.load_fault.LoadFault.TheVariants as faults
use Rattle.scf_profile.specs.declared.loaded.Loaded.{Loaded}
use Rattle.scf_profile.specs.declared.loaded.LoadedProfiles.{LoadedProfiles}
use Rattle.scf_profile.specs.declared.reading.Reading.{Reading}
use Rattle.scf_profile.specs.declared.reading.Reading.TheVariants.{Strict}
use Rattle.scf_profile.specs.Rule.{Conflicts}
use Rattle.scf_profile.specs.Limits.{max_text_len}
use Rattle.scf_profile.specs.Profile.{Profile, HaveNoConflict}
use Rattle.scf_profile.specs.Table.{Names}
use Rattle.scf_profile.specs.StatedProfile.{Tables, profiles_of}

-- the text is short enough, and JSON for the value, nested at most as deep as serde_json reads
pub record IsText (text : List ℕ) (d : Data) : Type 0 where
  pub short : length text ≤ max_text_len
  pub utf8 : IsUtf8 text
  pub value : read text ≡ Some d

-- A rule and one of a later entry conflict: the indices of their entries, and the number of the calls on which they do.
pub record IsClash (architecture : Architecture) (rule later : Rule) (first second number : ℕ) : Type 0 where
  pub entry : rule.entry ≡ first
  pub later_entry : later.entry ≡ second
  pub order : first < second
  pub rule_number : rule.number ≡ number
  pub conflict : Conflicts architecture rule later

abbrev pub EntriesConflict : Architecture → List Rule → ℕ → ℕ → ℕ → Type 0
EntriesConflict architecture rules first second number =
    Any (λ rule. Any (λ later. IsClash architecture rule later first second number) rules) rules

-- second is the least entry in conflict with an earlier one, first the least of these, number the least where they are
pub record IsLeastConflict (architecture : Architecture) (rules : List Rule) (number first second : ℕ) : Type 0 where
  pub conflict : EntriesConflict architecture rules first second number
  pub least_second : (f s n : ℕ) → EntriesConflict architecture rules f s n → second ≤ s
  pub least_first : (f n : ℕ) → EntriesConflict architecture rules f second n → first ≤ f
  pub least_number : (n : ℕ) → EntriesConflict architecture rules first second n → number ≤ n

-- the profiles before one have no conflict, and this is the least one among its rules
pub record IsFirstConflict (profiles : List Profile) (number first second : ℕ) : Type 0 where
  pub before : List Profile
  pub profile : Profile
  pub behind : List Profile
  pub split : profiles ≡ before ++ profile ∷ behind
  pub none : All (λ p. HaveNoConflict p.architecture p.rules) before
  pub least : IsLeastConflict profile.architecture profile.rules number first second

-- what the tests of the value of the text give by a reading
abbrev pub TestsGive : Reading → List ℕ → Tables → Result LoadedProfiles LoadFault → Type 0
TestsGive reading text tables stated = (value : Data) × IsText text value × (profiles_of reading tables value ≡ stated)

-- what the text and the tables state by a reading, and no two rules of one architecture conflict
abbrev pub LoadsEachAs : Reading → List ℕ → Tables → LoadedProfiles → Type 0
LoadsEachAs reading text tables loaded =
    TestsGive reading text tables (Ok loaded)
    × All (λ p. HaveNoConflict p.architecture p.rules) loaded.profiles

-- When a text is refused with a fault, the first test that fails, the last of which is that what is stated has no
-- conflict. Want of memory may come in place of anything.
abbrev pub RefusesEachAs : Reading → List ℕ → Tables → LoadFault → Type 0
RefusesEachAs reading text tables faults.Memory = Unit {0}
RefusesEachAs reading text tables faults.Json =
    (length text ≤ max_text_len) × ((value : Data) → IsText text value → ⊥)
RefusesEachAs reading text tables faults.TooMany =
    (max_text_len < length text) ⊎ TestsGive reading text tables (Err faults.TooMany)
RefusesEachAs reading text tables (faults.Conflict number first second) =
    (loaded : LoadedProfiles) × TestsGive reading text tables (Ok loaded)
    × IsFirstConflict loaded.profiles number first second
RefusesEachAs reading text tables fault = TestsGive reading text tables (Err fault)

-- ---- with a table of x86-64 alone

abbrev pub only_table : Names → Tables
only_table table = (X8664, table) ∷ []

-- a profile by itself, as the only one of several
abbrev pub as_only : Loaded → LoadedProfiles
as_only loaded = record {
  profiles = loaded.profile ∷ [];
  skipped = loaded.skipped;
  other_architectures = loaded.other_architectures;
}

-- by the words of the text
abbrev pub Loads : List ℕ → Names → Loaded → Type 0
Loads text table loaded = LoadsEachAs Strict text (only_table table) (as_only loaded)

-- the fault where the only table's architecture isn't listed
abbrev pub fault_of_only : LoadFault → LoadFault
fault_of_only (faults.NotListed table) = faults.NoX8664 None
fault_of_only fault = fault

abbrev pub RefusesAs : Reading → List ℕ → Names → LoadFault → Type 0
RefusesAs reading text table fault =
    (of_each : LoadFault) × RefusesEachAs reading text (only_table table) of_each × (fault ≡ fault_of_only of_each)

abbrev pub Refuses : List ℕ → Names → LoadFault → Type 0
Refuses = RefusesAs Strict
