use Rattle.scf_compare.specs.Masked.{IsMaskOf}
use Rattle.scf_compare.proofs.value.decide_bit_slice.Goals as goal

pub returns-in-Equal-clause-decides : goal.returns-in-Equal-clause-decides
returns-in-Equal-clause-decides c = λ words of_record. rw c.in-Equal.is (c.is.ensures.decides words)

pub returns-in-CommonBit-clause-decides : goal.returns-in-CommonBit-clause-decides
returns-in-CommonBit-clause-decides c = λ words of_record.
    let zero = rw (← c.and.ensures.number words) at (c.is-in-CommonBit.ensures.decides words) in
    rw c.in-CommonBit.is (c.negated.ensures.decides words _ zero)

pub returns-in-Greater-clause-decides : goal.returns-in-Greater-clause-decides
returns-in-Greater-clause-decides c = λ words of_record. rw c.in-Greater.is (c.is_above.ensures.decides words of_record)

pub returns-in-CommonBit-clause-plain : goal.returns-in-CommonBit-clause-plain
returns-in-CommonBit-clause-plain c = λ masks under is whole test.
    let of_v : IsMaskOf masks c.args.v = rw c.in-CommonBit.is at test in
    c.negated.ensures.plain masks
    (c.is-in-CommonBit.ensures.plain masks (c.and.ensures.masked masks is of_v).mask)

pub returns-in-Greater-clause-plain : goal.returns-in-Greater-clause-plain
returns-in-Greater-clause-plain c = λ masks under is whole test.
    c.is_above.ensures.plain masks (whole (rw c.in-Greater.is at test))
