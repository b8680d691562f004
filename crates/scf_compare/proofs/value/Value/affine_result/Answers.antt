-- The result by an affine term is that by the number which the term abstracts.
use Rattle.scf_compare.proofs.Common.{IfSome_then, common_steps, arith}
use Rattle.scf_compare.proofs.value.Value.affine_result.Goals as goal

pub returns-in_ok-affine_term-in_default-Known-clause-number : goal.returns-in_ok-affine_term-in_default-Known-clause-number
returns-in_ok-affine_term-in_default-Known-clause-number c =
    grind (arith, common_steps, IfSome_then, c.in_ok-affine_term-in_default-Known.ensures.number)

pub returns-in_ok-affine_term-in-Known-default : goal.returns-in_ok-affine_term-in-Known-default
returns-in_ok-affine_term-in-Known-default c =
    grind (arith, common_steps, c.in_ok-affine_term-in-Known-default.ensures.number)

pub returns-in_ok-affine_term-in_default-2 : goal.returns-in_ok-affine_term-in_default-2
returns-in_ok-affine_term-in_default-2 c =
    grind (arith, common_steps, c.in_ok-affine_term-in_default.ensures.number, c.in_ok-affine_term-in_default-2.ensures.number)
