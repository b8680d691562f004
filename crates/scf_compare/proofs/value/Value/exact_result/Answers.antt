use Rattle.scf_compare.proofs.value.Value.exact_result.Goals as goal

-- a masked value under a constant mask is a bit slice or a constant
pub returns-in_err-affine_result-in-None-clause-some : goal.returns-in_err-affine_result-in-None-clause-some
returns-in_err-affine_result-in-None-clause-some c = λ masks v under is other and.
    absurd (let none = rw c.in-None.is at (c.bit_slice_result.ensures.some masks v under is other and) in cc)

pub returns-in_ok-affine_result-in-None-clause-masked : goal.returns-in_ok-affine_result-in-None-clause-masked
returns-in_ok-affine_result-in-None-clause-masked c = λ masks v under is other and of_v.
    absurd (let none = rw c.in-None.is at (c.bit_slice_result.ensures.some masks v under is other and) in cc)
