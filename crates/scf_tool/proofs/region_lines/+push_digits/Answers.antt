use Rattle.std.proofs.Common.{◌/◌}
use Rattle.std.proofs.lemmas.Fmt.{hex_two_digits}
use Rattle.scf_tool.proofs.Common.{append_assoc, arith, false, ◌≡◌}
use Rattle.scf_tool.proofs.NumeralLemmas.{digits_step}
use Rattle.scf_tool.proofs.region_lines.+push_digits.Goals as goal

pub returns-then-number-lt256 : goal.returns-then-number-lt256
returns-then-number-lt256 t c =
    let two = hex_two_digits false c.args.number (omega (arith, c.if-number-lt16.false))
    (omega (arith, c.if-number-lt256.true)) in
    grind (arith, append_assoc, two)

pub returns : goal.returns
returns t c =
    let number = c.args.number in
    let last = digits_step number (omega (arith, c.if-number-lt256.false)) (omega (arith, c.ranges.number.fits)) in
    let front : number / 16 / 16 ≡ number / 256 = omega arith in
    let before = rw front at (digits_step (number / 16) (omega (arith, c.if-number-lt256.false))
    (omega (arith, c.ranges.number.fits))) in
    grind (arith, append_assoc, last, before)
