use Rattle.scf_compare.proofs.Common.{◌<◌, arith}
use Rattle.scf_compare.proofs.KnownBits.{quotient_grows, value_least}
use Rattle.scf_compare.proofs.known_bits.quotient_bits.Goals as goal

pub returns-clause-stands : goal.returns-clause-stands
returns-clause-stands c = λ x y fits_x fits_y of_x of_y.
    let least_x = value_least x _ _ of_x in
    let least_y = value_least y _ _ of_y in
    let most_x = c.greatest-2.ensures.most x fits_x of_x in
    let most_y = c.greatest.ensures.most y fits_y of_y in
    let some : 0 < c.args.second.value = omega (arith, c.if-second-eq0.false) in
    let some_y : 0 < y = omega arith in
    c.between.ensures.common _ (quotient_grows _ _ _ _ least_x most_y some_y) (quotient_grows _ _ _ _ most_x least_y some)
