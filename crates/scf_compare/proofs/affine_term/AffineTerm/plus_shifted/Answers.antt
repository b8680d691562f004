use Rattle.scf_compare.proofs.Common.{arith, common_steps}
use Rattle.scf_compare.proofs.AffineTerms.{plus_product}
use Rattle.scf_compare.proofs.affine_term.AffineTerm.plus_shifted.Goals as goal

pub returns-clause-number : goal.returns-clause-number
returns-clause-number c = grind (arith, common_steps, c.in_ok-shifted.ensures.number, plus_product)
