use Rattle.scf_compare.proofs.Common.{IfSome_then, common_steps, arith}
use Rattle.scf_compare.proofs.AffineTerms.{quotient_fits, sum_of_reverse}
use Rattle.scf_compare.proofs.affine_term.AffineTerm.combined.Goals as goal

pub returns-in-Add-clause-number : goal.returns-in-Add-clause-number
returns-in-Add-clause-number c = rw c.in-Add.is c.sum.ensures.number

pub returns-in_ok-reverse_sub-in-Sub-clause-number : goal.returns-in_ok-reverse_sub-in-Sub-clause-number
returns-in_ok-reverse_sub-in-Sub-clause-number c =
    grind (arith, common_steps, IfSome_then, c.in_ok-reverse_sub-in-Sub.ensures.number, sum_of_reverse, quotient_fits)
