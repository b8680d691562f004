use Rattle.std.proofs.Common.{append-nil, append_assoc}
use Rattle.scf_facts.proofs.Common.{[]}
use Rattle.scf_facts.proofs.IntervalLaws.{joined}
use Rattle.scf_facts.proofs.intervals.parts_outside.Goals as goal

pub returns-in_default : goal.returns-in_default
returns-in_default c =
    let below = rw (c.from.ensures, c.in_ok-extend_from_slice.ensures.items, c.in_ok-parts.ensures.items)
    at c.in_ok-cut_from.ensures in
    let above = rw c.from-2.ensures at c.in_default.ensures.none in
    rw (append-nil c.cut_from.new.intervals.items)
    at (joined c.args.intervals.now _ [] c.args.range below above c.requires.filled)

pub returns : goal.returns
returns c =
    let below = rw (c.from.ensures, c.in_ok-extend_from_slice.ensures.items, c.in_ok-parts.ensures.items)
    at c.in_ok-cut_from.ensures in
    let above = rw c.from-2.ensures at c.in-Some.ensures.some in
    rw (c.in_ok-extend_from_slice-2.ensures.items, c.in_ok-push.ensures.items, append_assoc)
    (joined c.args.intervals.now _ _ c.args.range below above c.requires.filled)
