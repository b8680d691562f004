use Rattle.scf_profile.proofs.Common.{arith, sym}
use Rattle.scf_profile.proofs.Masks.{none_masked}
use Rattle.scf_profile.proofs.number_set.NumberSet.masked.Goals as goal

pub returns-else-value-greatest-clause-same : goal.returns-else-value-greatest-clause-same
returns-else-value-greatest-clause-same c = λ n fits.
    sym (none_masked c.args.bits c.args.mask c.args.value n fits
    (let above = c.if-value-greatest.false in omega (arith, above, c.greatest.ensures)))
