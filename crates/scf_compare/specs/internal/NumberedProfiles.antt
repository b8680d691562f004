-- A profile with the numbers of its rules.
use Rattle.std.specs.Prelude.{List}
use Rattle.scf_profile.specs.declared.number_rules.NumberRules.{NumberRules}
use Rattle.scf_profile.specs.NumberRules.{AreNumbersOf}
use Rattle.scf_profile.specs.Profile.{IsProfile, Profile}

pub record NumberedProfile : Type 0 where
  pub profile : Profile
  pub numbers : List NumberRules

pub record IsNumbered (s : NumberedProfile) : Type 0 where
  pub valid : IsProfile s.profile
  pub numbers : AreNumbersOf s.numbers s.profile.rules
