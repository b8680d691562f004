use Rattle.scf_compare.proofs.value.Value.computed.Goals as goal

-- a masked value under a constant mask has an exact result
pub returns-in-None-clause-masked : goal.returns-in-None-clause-masked
returns-in-None-clause-masked g c = λ masks v under is other and of_v.
    absurd (let none = rw c.in-None.is at (c.exact_result.ensures.some masks v under is other and) in cc)
