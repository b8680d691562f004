use Rattle.std.proofs.lemmas.Fmt.{decimal_step}
use Rattle.scf_tool.proofs.Common.{append_assoc, arith}
use Rattle.scf_tool.proofs.region_lines.+push_decimal.Goals as goal

pub returns : goal.returns
returns t c =
    let step = decimal_step c.args.number (omega (arith, c.if-number-lt10.false)) (omega (arith, c.ranges.number.fits))
    in
    grind (arith, append_assoc, step)
