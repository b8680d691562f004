use Rattle.scf_profile.proofs.profile.Profile.is_plain.Goals as goal

pub returns : goal.returns
returns c = rw (← c.rules.ensures.rules) c.are_plain.ensures
