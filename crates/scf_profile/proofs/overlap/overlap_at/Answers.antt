use Rattle.scf_profile.proofs.overlap.overlap_at.Goals as goal

pub returns-in_default : goal.returns-in_default
returns-in_default c =
    (λ t. cc, λ s. let held = (c.in_default.ensures.same s.number s.fits).1 s.first in cc)

pub returns-in_default-numbers_at : goal.returns-in_default-numbers_at
returns-in_default-numbers_at c =
    (λ t. cc, λ s. let held = (c.in_default-numbers_at.ensures.same s.number s.fits).1 s.second in cc)
