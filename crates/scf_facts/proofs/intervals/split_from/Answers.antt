use Rattle.scf_facts.proofs.Common.{[], ◌∷◌, ◌+◌, ◌-◌, arith, common_steps, drop, gets, length, take, take_all}
use Rattle.scf_facts.proofs.IntervalLaws.{parts_from}
use Rattle.scf_facts.proofs.intervals.split_from.Goals as goal

pub returns-in_default-clause-none : goal.returns-in_default-clause-none
returns-in_default-clause-none c =
    let count = c.count_ending_below-count in
    parts_from 0 c.args.intervals.now count.result c.args.bound c.requires count.ensures.below count.ensures.rest []
    (grind (arith, common_steps, gets))

pub returns-clause-some : goal.returns-clause-some
returns-clause-some c =
    let count = c.count_ending_below-count in
    let is = c.args.intervals.now in
    let behind = take (length is - (count.result + 1)) (drop (count.result + 1) is) in
    parts_from 0 is count.result c.args.bound c.requires count.ensures.below count.ensures.rest
    (record { low = c.max.result; high = c.in-Some.first.high } ∷ behind)
    (grind (arith, common_steps, gets, take_all))
