use Rattle.scf_facts.proofs.Common.{arith, common_steps, gets, nat_tests}
use Rattle.scf_facts.proofs.IntervalLaws.{parts_below, reaches}
use Rattle.scf_facts.proofs.intervals.cut_from.Goals as goal

pub overflow_cast-bound : goal.overflow_cast-bound
overflow_cast-bound c = grind (arith, common_steps, c.deref.ensures.value, gets, reaches)

pub returns-in_default : goal.returns-in_default
returns-in_default c =
    let count = rw c.deref.ensures.value at c.count_ending_below-count.ensures in
    parts_below 0 c.args.intervals.now.items c.count_ending_below-count.result c.args.bound c.requires count.below
    count.rest _ (grind (arith, common_steps, gets))

pub returns-then-bound-from : goal.returns-then-bound-from
returns-then-bound-from c =
    let count = rw c.deref.ensures.value at c.count_ending_below-count.ensures in
    parts_below 0 c.args.intervals.now.items c.count_ending_below-count.result c.args.bound c.requires count.below
    count.rest _ (grind (arith, common_steps, gets, nat_tests))

pub returns : goal.returns
returns c =
    let count = rw c.deref.ensures.value at c.count_ending_below-count.ensures in
    parts_below 0 c.args.intervals.now.items c.count_ending_below-count.result c.args.bound c.requires count.below
    count.rest _ (grind (arith, common_steps, gets, nat_tests))
