use Rattle.scf_compare.proofs.Common.{arith, common_steps}
use Rattle.scf_compare.proofs.AffineTerms.{sum_beyond, sum_within}
use Rattle.scf_compare.proofs.affine_term.AffineTerm.is_sum_within.Goals as goal

pub returns-then-first-last-clause-decides : goal.returns-then-first-last-clause-decides
returns-then-first-last-clause-decides c = grind (arith, common_steps, c.is_product_within.ensures.decides, sum_within)

pub returns-else-first-last-clause-decides : goal.returns-else-first-last-clause-decides
returns-else-first-last-clause-decides c =
    grind (arith, common_steps, c.negated.ensures.decides, c.is_product_within-else-first-last.ensures.decides, sum_beyond)
