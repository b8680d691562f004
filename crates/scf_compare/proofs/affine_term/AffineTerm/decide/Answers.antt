use Rattle.scf_compare.proofs.Common.{subst, sym, Decides, common_steps, arith}
use Rattle.scf_compare.proofs.AffineTerms.{from_least, from_lowest_bit, none_past, one_value, past_least, quotient_fits}
use Rattle.scf_compare.specs.internal.AffineTerms.{affine_value}
use Rattle.scf_compare.proofs.affine_term.AffineTerm.decide.Goals as goal

pub returns-in-Equal-clause-decides : goal.returns-in-Equal-clause-decides
returns-in-Equal-clause-decides c = grind (arith, common_steps, c.is_within.ensures.decides, one_value)

pub returns-in-GreaterOrEqual-clause-decides : goal.returns-in-GreaterOrEqual-clause-decides
returns-in-GreaterOrEqual-clause-decides c =
    grind (arith, common_steps, c.is_within-in-GreaterOrEqual.ensures.decides, quotient_fits, from_least)

pub returns-in-Greater-clause-decides : goal.returns-in-Greater-clause-decides
returns-in-Greater-clause-decides c = grind (arith, common_steps, quotient_fits, none_past)

pub returns-in-Greater-2-clause-decides : goal.returns-in-Greater-2-clause-decides
returns-in-Greater-2-clause-decides c =
    grind (arith, common_steps, c.is_within-in-Greater-2.ensures.decides, quotient_fits, past_least)

pub returns-in-Some-clause-decides : goal.returns-in-Some-clause-decides
returns-in-Some-clause-decides c = λ words is.
    rw (c.in-CommonBit.is, c.in-Some.ensures.number words)
    (c.negated.ensures.decides words _
    (subst (λ b. Decides c.is_within-in-Some.result words b) (sym (one_value (affine_value c.in-Some.common words) 0))
    (c.is_within-in-Some.ensures.decides words is)))

pub returns-in-None-clause-decides : goal.returns-in-None-clause-decides
returns-in-None-clause-decides c =
    grind (arith, common_steps, c.is_high_mask.ensures.high, c.is_within-in-None.ensures.decides, quotient_fits, from_lowest_bit)
