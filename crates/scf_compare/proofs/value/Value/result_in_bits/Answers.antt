use Rattle.scf_compare.proofs.value.Value.result_in_bits.Goals as goal

pub returns-in-Some-clause-stands : goal.returns-in-Some-clause-stands
returns-in-Some-clause-stands g c = λ words a v allowed first second.
    c.in-Some.ensures.stands words a v
    (c.folded.ensures.stands words a (c.in_bits-first.ensures words a allowed first) first)
    (c.folded-2.ensures.stands words v (c.in_bits-second.ensures words v allowed second) second)

pub returns-in-None-clause-stands : goal.returns-in-None-clause-stands
returns-in-None-clause-stands g c = λ words a v allowed first second.
    c.value.ensures.stands words _
    (c.combined.ensures a v (c.in_bits-first.ensures words a allowed first) (c.in_bits-second.ensures words v allowed second))
