use Rattle.scf_compare.proofs.Common.{arith, common_steps}
use Rattle.scf_compare.proofs.AffineTerms.{add_more}
use Rattle.scf_compare.proofs.affine_term.AffineTerm.add.Goals as goal

pub returns-clause-number : goal.returns-clause-number
returns-clause-number c = grind (arith, common_steps, add_more)
