-- How a profile is read: by a reading, and with runc's stub for the calls of some architectures.
use Rattle.std.specs.Prelude.{◌≡◌, ◌-◌, ◌^◌, ℕ, List, map, nat_le, Option, Some, None, if◌then◌else◌}
use Rattle.std.specs.List.{filter_map, fold}
use Rattle.std.specs.Option.{option_and_then}
use Rattle.scf_insn.specs.declared.architecture.Architecture.{Architecture}
use Rattle.scf_insn.specs.Numbers.{numeral}
use Rattle.scf_profile.specs.Loading.{LoadsEachAs}
use Rattle.scf_profile.specs.Profile.{Profile}
use Rattle.scf_profile.specs.StatedProfile.{Tables, with_stub}
use Rattle.scf_profile.specs.declared.loaded.LoadedProfiles.{LoadedProfiles}
use Rattle.scf_profile.specs.declared.reading.Reading.{Reading}
use Rattle.scf_request.specs.declared.interpretation.Stub.{Stub}

pub record Interpretation : Type 0 where
  pub reading : Reading
  pub stubs : List Stub

-- ---- what is loaded

-- the profiles, after each stub has been set in that of its architecture
abbrev pub stubbed : List Stub → List Profile → List Profile
stubbed stubs profiles =
    fold (λ so_far stub. map (with_stub stub.architecture (Some stub.first)) so_far) profiles stubs

-- what the text and the tables state by the reading, with the stubs
abbrev pub LoadsEachBy : Interpretation → List ℕ → Tables → LoadedProfiles → Type 0
LoadsEachBy by text tables loaded = (stated : LoadedProfiles) × LoadsEachAs by.reading text tables stated
    × (loaded ≡ record stated { profiles = stubbed by.stubs stated.profiles })

-- ---- the stubs of a bundle

-- the stub of a part: decimal digits that spell the number of a call record
abbrev pub stub_of : Architecture × List ℕ → Option Stub
stub_of part = option_and_then
    (λ first. if nat_le first (2 ^ 32 - 1) then Some (record { architecture = part.0; first = first }) else None)
    (numeral 10 part.1)

-- the stubs of the parts that have the number of one
abbrev pub stubs_of : List (Architecture × List ℕ) → List Stub
stubs_of parts = filter_map stub_of parts
