use Rattle.scf_compare.proofs.Common.{◌-◌, arith, cases_eq, ne_eqb, common_steps}
use Rattle.scf_compare.proofs.AffineTerms.{quotient_fits, xor_more, xor_ones}
use Rattle.scf_compare.proofs.BitSlices.{number_fits}
use Rattle.scf_compare.proofs.affine_term.AffineTerm.xor.Goals as goal

pub returns-then-self-eq1-clause-number : goal.returns-then-self-eq1-clause-number
returns-then-self-eq1-clause-number c = grind (arith, common_steps, xor_more, number_fits)

pub returns-clause-number : goal.returns-clause-number
returns-clause-number c =
    grind (arith, common_steps, c.complement.ensures.number, cases_eq, xor_ones, quotient_fits, ne_eqb)
