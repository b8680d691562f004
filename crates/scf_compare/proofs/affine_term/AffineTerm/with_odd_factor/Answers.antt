use Rattle.scf_compare.proofs.Common.{arith, common_steps}
use Rattle.scf_compare.proofs.AffineTerms.{by_odd}
use Rattle.scf_compare.proofs.affine_term.AffineTerm.with_odd_factor.Goals as goal

pub returns-in-Some-clause-number : goal.returns-in-Some-clause-number
returns-in-Some-clause-number c = grind (arith, common_steps, c.in-Some.ensures.number, by_odd)
