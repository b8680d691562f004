use Rattle.scf_compare.proofs.Common.{arith, common_steps}
use Rattle.scf_compare.proofs.AffineTerms.{reduced_sum}
use Rattle.scf_compare.proofs.BitSlices.{number_fits}
use Rattle.scf_compare.proofs.affine_term.AffineTerm.reduced.Goals as goal

pub returns-clause-number : goal.returns-clause-number
returns-clause-number c = grind (arith, common_steps, c.bits-bits.ensures.all, reduced_sum, number_fits)
