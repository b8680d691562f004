use Rattle.scf_facts.proofs.Common.{ltb, rules, ltb-true, ltb-false, IsPartitionPoint-from_clause, IsPartitionedBy-ltb}
use Rattle.scf_facts.proofs.IntervalLaws.{rising}
use Rattle.scf_facts.proofs.intervals.count_ending_below.Goals as goal

pub returns : goal.returns
returns c =
    let parted = IsPartitionedBy-ltb (λ i. i.high) c.args.intervals.now c.args.bound
    (rising 0 c.args.intervals.now c.requires) in
    let point = IsPartitionPoint-from_clause (λ i. ltb i.high c.args.bound) _ _ c.partition_point.ensures.partitioned
    parted (λ a r q k. search rules) in
    record {
      bound = c.partition_point.ensures.bound;
      below = λ k d from lt. ltb-true _ _ (point.0 k d from lt);
      rest = λ k d from lt. ltb-false _ _ (point.1 k d from lt);
    }
