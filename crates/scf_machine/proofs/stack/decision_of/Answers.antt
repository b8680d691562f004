use Rattle.scf_machine.proofs.Stacks.{one_more, one_more_gives}
use Rattle.scf_machine.proofs.stack.decision_of.Goals as goal

pub loop-filter-preserved : goal.loop-filter-preserved
loop-filter-preserved c =
    let inside = c.loop-filter-test.true in
    let so_far = c.loop-filter.invariant in
    let newest = rw c.index-filters-filter.is at c.run_to_end.ensures in
    rw (c.with_newest-decision.ensures.by, c.with_newest-decision.ensures.answer) (
      one_more_gives _ c.loop-filter.filter c.index-filters-filter.result _ _ _ _ _ inside so_far.0 newest.end,
      one_more _ c.loop-filter.filter c.index-filters-filter.result _ _ _ inside so_far.1 (_, newest.run),
    )
