use Rattle.scf_compare.proofs.Common.{◌+◌, ◌%◌, ◌^◌, HasBits, arith}
use Rattle.scf_compare.proofs.KnownBits.{sum_known, value_least}
use Rattle.scf_compare.proofs.known_bits.sum_bits.Goals as goal

pub returns-clause-stands : goal.returns-clause-stands
returns-clause-stands c = λ x y fits_x fits_y of_x of_y.
    let least_x = value_least x _ _ of_x in
    let least_y = value_least y _ _ of_y in
    let most_x = c.greatest.ensures.most x fits_x of_x in
    let most_y = c.greatest-2.ensures.most y fits_y of_y in
    let known = sum_known x y c.args.first.mask c.args.second.mask c.args.first.value c.args.second.value
    fits_x fits_y (omega arith) (omega arith) of_x of_y in
    let both : HasBits c.of-both.result ((x + y) % 2 ^ 32) = cc (known) in
    c.union.ensures.both _ both (c.leading_bits.ensures.stands (x + y) (omega arith) (omega arith))
