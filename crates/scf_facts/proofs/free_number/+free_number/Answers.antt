use Rattle.scf_facts.proofs.Common.{◌-◌, ◌<◌, arith, common_steps}
use Rattle.scf_facts.proofs.Ones.{fixes_lowest, search_both, search_first, search_gives_up}
use Rattle.scf_facts.proofs.free_number.+free_number.Goals as goal

pub returns-in_default-free_number-clause-found : goal.returns-in_default-free_number-clause-found
returns-in_default-free_number-clause-found t c = λ x e.
    let (inside, has, more, free) = c.free_number.ensures.found x e in
    let both = (c.in-Some.ensures.both x).0 has in
    (inside, both.0, both.1, free)

pub returns-in-Nothing-clause-found : goal.returns-in-Nothing-clause-found
returns-in-Nothing-clause-found t c = λ x e.
    let (inside, has, more, free) = c.free_number-in-Nothing.ensures.found x e in
    let both = (c.in-Some.ensures.both x).0 has in
    (inside, both.0, both.1, free)

-- a number has the bit or lacks it
pub returns-in-Nothing-clause-nothing : goal.returns-in-Nothing-clause-nothing
returns-in-Nothing-clause-nothing t c =
    grind (arith, common_steps, c.in-Some.ensures.both, c.free_number-in-Nothing.ensures.nothing, c.in-Nothing.ensures.nothing, c.flipped.ensures.other)

pub returns-then-tries-eq0-clause-ends : goal.returns-then-tries-eq0-clause-ends
returns-then-tries-eq0-clause-ends t c = λ masks count all few.
    let next = fixes_lowest masks c.in-Some.bits.mask _ _ _ count (c.in-Some-refuted_in.ensures.among masks all)
    c.beyond.ensures.among c.beyond.ensures.apart c.in-Some-lowest.ensures.among c.in-Some-lowest.ensures.one
    (rw c.in-Some.ensures.mask few) in
    rw c.if-tries-eq0.true (search_gives_up count next.0)

pub returns-in-Nothing-clause-ends : goal.returns-in-Nothing-clause-ends
returns-in-Nothing-clause-ends t c = λ masks count all few.
    let next = fixes_lowest masks c.in-Some.bits.mask _ _ _ count (c.in-Some-refuted_in.ensures.among masks all)
    c.beyond.ensures.among c.beyond.ensures.apart c.in-Some-lowest.ensures.among c.in-Some-lowest.ensures.one
    (rw c.in-Some.ensures.mask few) in
    let left : 0 < c.args.tries.now = omega (arith, c.if-tries-eq0.false) in
    search_both count _ _ _ _ next.0 left
    (c.in-Nothing.ensures.ends masks (count - 1) all (rw c.flipped.ensures.mask next.1))
    (c.free_number-in-Nothing.ensures.ends masks (count - 1) all next.1)

pub returns-in_default-free_number-clause-ends : goal.returns-in_default-free_number-clause-ends
returns-in_default-free_number-clause-ends t c = λ masks count all few.
    let next = fixes_lowest masks c.in-Some.bits.mask _ _ _ count (c.in-Some-refuted_in.ensures.among masks all)
    c.beyond.ensures.among c.beyond.ensures.apart c.in-Some-lowest.ensures.among c.in-Some-lowest.ensures.one
    (rw c.in-Some.ensures.mask few) in
    let left : 0 < c.args.tries.now = omega (arith, c.if-tries-eq0.false) in
    search_first count _ _ _ next.0 left
    (c.free_number.ensures.ends masks (count - 1) all (rw c.flipped.ensures.mask next.1))
