use Rattle.scf_compare.proofs.Common.{◌*◌, arith, mul-le-mul}
use Rattle.scf_compare.proofs.KnownBits.{product_low, value_least}
use Rattle.scf_compare.proofs.known_bits.product_bits.Goals as goal

pub returns-clause-stands : goal.returns-clause-stands
returns-clause-stands c = λ x y fits_x fits_y of_x of_y.
    let least = mul-le-mul (value_least x _ _ of_x) (value_least y _ _ of_y) in
    let most = mul-le-mul (c.greatest.ensures.most x fits_x of_x) (c.greatest-2.ensures.most y fits_y of_y) in
    let low = product_low x y _ _ _ _ of_x of_y in
    c.both_ends.ensures.stands (x * y) (grind (arith, least)) (grind (arith, most))
    (λ k within known. cc (low k within known))
