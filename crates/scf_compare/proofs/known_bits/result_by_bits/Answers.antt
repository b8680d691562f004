use Rattle.scf_compare.proofs.known_bits.result_by_bits.Goals as goal

pub returns-in-Add-clause-stands : goal.returns-in-Add-clause-stands
returns-in-Add-clause-stands c = rw c.in-Add.is c.sum_bits.ensures.stands

pub returns-in-Mul-clause-stands : goal.returns-in-Mul-clause-stands
returns-in-Mul-clause-stands c = rw c.in-Mul.is c.product_bits.ensures.stands

pub returns-in-Div-clause-stands : goal.returns-in-Div-clause-stands
returns-in-Div-clause-stands c = rw c.in-Div.is c.quotient_bits.ensures.stands

pub returns-in-Or-clause-stands : goal.returns-in-Or-clause-stands
returns-in-Or-clause-stands c = λ x y fits_x fits_y of_x of_y.
    rw c.in-Or.is (c.or_bits.ensures.stands x y of_x of_y)

pub returns-in-And-clause-stands : goal.returns-in-And-clause-stands
returns-in-And-clause-stands c = λ x y fits_x fits_y of_x of_y.
    rw c.in-And.is (c.and_bits.ensures.stands x y of_x of_y)

pub returns-in-Xor-clause-stands : goal.returns-in-Xor-clause-stands
returns-in-Xor-clause-stands c = λ x y fits_x fits_y of_x of_y.
    rw c.in-Xor.is (c.xor_bits.ensures.stands x y of_x of_y)
