use Rattle.scf_compare.proofs.Common.{arith, bit_xor, common_steps, xor_lt}
use Rattle.scf_compare.proofs.KnownBits.{same_by_xor}
use Rattle.scf_compare.proofs.known_bits.known_outcome.Goals as goal

pub returns-in-Equal-clause-stands : goal.returns-in-Equal-clause-stands
returns-in-Equal-clause-stands c = λ x y fits_x fits_y of_x of_y.
    let zero = c.is_zero.ensures (bit_xor x y) (xor_lt 32 x y fits_x fits_y) (c.xor_bits.ensures.stands x y of_x of_y) in
    rw c.in-Equal.is (simp (same_by_xor x y) at zero)

pub returns-in-GreaterOrEqual-clause-stands : goal.returns-in-GreaterOrEqual-clause-stands
returns-in-GreaterOrEqual-clause-stands c = λ x y fits_x fits_y of_x of_y.
    let above = c.is_above-in-GreaterOrEqual.ensures y x fits_y fits_x of_y of_x in
    rw c.in-GreaterOrEqual.is (grind (arith, common_steps, above))
