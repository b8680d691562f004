use Rattle.std.proofs.Common.{inr, refl}
use Rattle.scf_tool.proofs.Common.{err_from_is_err_and}
use Rattle.scf_c.proofs.comparison.compare_inputs.Goals as goal

pub returns-in_err-pairings-clause-refused : goal.returns-in_err-pairings-clause-refused
returns-in_err-pairings-clause-refused c =
    let p = err_from_is_err_and c.from_residual-in_err-pairings.result c.from_residual-in_err-pairings.ensures.1 in
    rw (p.1, p.2) (inr (inr (
      c.in_ok-left_side.left_side,
      c.in_ok-left_side.ensures.read,
      inr (c.in-Ok.side, c.in-Ok.ensures.read, (c.in_err-pairings.field-0.0, c.in_err-pairings.ensures.refused, refl)),
    )))
