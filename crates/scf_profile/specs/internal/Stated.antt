-- What was read of a text, as it is loaded where no rules conflict.
use Rattle.std.specs.Prelude.{ℕ, List, ◌∷◌, Option, Some, None, map}
use Rattle.scf_insn.specs.Architectures.{row_of}
use Rattle.scf_insn.specs.declared.answer.Answer.{Answer}
use Rattle.scf_insn.specs.declared.architecture.Architecture.{Architecture}
use Rattle.scf_profile.specs.declared.profile_text.StatedProfiles.{StatedProfiles}
use Rattle.scf_profile.specs.declared.profile_text.StatedRules.{StatedRules}
use Rattle.scf_profile.specs.declared.loaded.LoadedProfiles.{LoadedProfiles}
use Rattle.scf_profile.specs.declared.reading.Reading.{Reading}
use Rattle.scf_profile.specs.Profile.{Profile}
use Rattle.scf_profile.specs.Readings.{effective_profile}

-- names, and before them that of the machine's architecture, if it is given
abbrev pub with_machine : Option Architecture → List (List ℕ) → List (List ℕ)
with_machine None names = names
with_machine (Some machine) names = (row_of machine).name ∷ names

-- rules with a default answer, as the profile of their architecture
abbrev pub stated_profile : Answer → StatedRules → Profile
stated_profile default_answer s = record {
  architecture = s.architecture;
  default_answer = default_answer;
  rules = s.rules.items;
  stub = None;
}

-- and as a reading has it
abbrev pub effective_of : Reading → Answer → StatedRules → Profile
effective_of reading default_answer s = effective_profile reading (stated_profile default_answer s)

abbrev pub loaded_profiles_of : Reading → StatedProfiles → LoadedProfiles
loaded_profiles_of reading s = record {
  profiles = map (effective_of reading s.default_answer) s.rules.items;
  skipped = s.skipped;
  other_architectures = s.other_architectures;
}
