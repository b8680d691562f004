use Rattle.scf_compare.proofs.Common.{◌≡◌, and_comm, arith, common_steps}
use Rattle.scf_compare.proofs.value.Value.bit_slice_result.Goals as goal

pub returns-in-And-Slice-Known-clause-masked : goal.returns-in-And-Slice-Known-clause-masked
returns-in-And-Slice-Known-clause-masked c = λ masks v under is other and of_v.
    let here = c.in-And-Slice-Known in
    let same : v ≡ here.v = grind (arith, other, here.is-2) in (
      c.and-in-And-Slice-Known.ensures.masked masks (rw here.is-1 at is).0 (rw same at of_v),
      λ no. absurd (let none = no in cc),
    )

pub returns-in-And-Slice-Known-clause-stands : goal.returns-in-And-Slice-Known-clause-stands
returns-in-And-Slice-Known-clause-stands c = grind (arith, common_steps, c.and-in-And-Slice-Known.ensures.number)

pub returns-in-And-Known-Slice-clause-stands : goal.returns-in-And-Known-Slice-clause-stands
returns-in-And-Known-Slice-clause-stands c = grind (arith, common_steps, and_comm)

pub returns-in-Lsh-Slice-Known-clause-stands : goal.returns-in-Lsh-Slice-Known-clause-stands
returns-in-Lsh-Slice-Known-clause-stands c = grind (arith, common_steps, c.shifted_left.ensures.stands)

pub returns-in-Rsh-Slice-Known-clause-stands : goal.returns-in-Rsh-Slice-Known-clause-stands
returns-in-Rsh-Slice-Known-clause-stands c = grind (arith, common_steps, c.shifted_right.ensures.stands)
