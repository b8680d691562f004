use Rattle.scf_profile.proofs.Common.{None, Some, refl}
use Rattle.scf_profile.proofs.Answering.{by_found}
use Rattle.scf_profile.proofs.profiles.Profiles.reason.Goals as goal

pub returns-in-Some : goal.returns-in-Some
returns-in-Some c =
    rw (← c.as_slice.ensures.profiles)
    (by_found _ _ _ _ (Some c.in-Some.profile.now) c.in-Some.ensures c.reason.ensures)

pub returns-in-None : goal.returns-in-None
returns-in-None c = rw (← c.as_slice.ensures.profiles) (by_found _ _ _ _ None c.in-None.ensures refl)
