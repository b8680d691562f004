use Rattle.std.proofs.lemmas.Result.{IfOk-weaker}
use Rattle.scf_facts.proofs.IntervalLaws.{within_first}
use Rattle.scf_facts.proofs.intervals.parts_within.Goals as goal

pub returns-then-range-first : goal.returns-then-range-first
returns-then-range-first c =
    let from = rw c.from.ensures at c.in-Some.ensures.some in
    let within = within_first _ _ c.in-Some.first c.args.range from c.if-first-range.true c.if-range-first.true in
    IfOk-weaker c.from_slice.result _ _ (λ parts is. rw is within) c.from_slice.ensures.items
