use Rattle.scf_compare.proofs.Common.{arith, common_steps}
use Rattle.scf_compare.proofs.AffineTerms.{beyond_turned, set_within, turned_within, xor_equal}
use Rattle.scf_compare.proofs.affine_term.AffineTerm.is_xored_within.Goals as goal

pub returns-then-low-high-clause-decides : goal.returns-then-low-high-clause-decides
returns-then-low-high-clause-decides c = grind (arith, common_steps, c.is.ensures.decides, xor_equal)

pub returns-then-self-high-clause-decides : goal.returns-then-self-high-clause-decides
returns-then-self-high-clause-decides c =
    grind (arith, common_steps, c.bits-bits.ensures.all, c.is_within.ensures.decides, set_within)

pub returns-then-low-self-clause-decides : goal.returns-then-low-self-clause-decides
returns-then-low-self-clause-decides c = grind (arith, common_steps, c.bits-bits.ensures.all, beyond_turned)

pub returns-else-low-self-clause-decides : goal.returns-else-low-self-clause-decides
returns-else-low-self-clause-decides c =
    grind (arith, common_steps, c.bits-bits.ensures.all, c.is_within-then-bits-self.ensures.decides, turned_within)
