use Rattle.scf_compare.proofs.Common.{arith}
use Rattle.scf_compare.proofs.Steps.{later_both, passed_on}
use Rattle.scf_compare.proofs.filter.pass_in_filter.Goals as goal
use Rattle.scf_compare.proofs.filter.pass_in_filter.Goals.{then-not-asks, else-not-asks}

pub loop-steps-preserved-then-tests-gt0 : goal.loop-steps-preserved-then-tests-gt0
loop-steps-preserved-then-tests-gt0 g c =
    let so_far = c.loop-steps.invariant in
    let passed = c.pass_equalities-behind.ensures in
    record {
      later = later_both _ _ _ _ _ _ _ so_far.later passed.later;
      size = omega (arith, so_far.size, passed.size);
      most = omega (arith, c.loop-steps-test.true, passed.most);
      asked = omega (arith, so_far.asked);
      number = rw c.in-Some.is at so_far.number;
    }

pub loop-steps-preserved : goal.loop-steps-preserved
loop-steps-preserved g c =
    let so_far = c.loop-steps.invariant in
    let step = c.in-Some-pass_at.ensures.next in
    record {
      later = passed_on _ _ _ _ _ _ _ _ so_far.later step;
      size = omega (arith, so_far.size, step.costs);
      most = omega (arith, c.loop-steps-test.true);
      asked = grind (arith, so_far.asked);
      number = elim c.if-not-asks.branch [
        | then-not-asks w ↦ grind arith
        | else-not-asks w ↦ grind (arith, so_far.number, c.in-Some-pass_at.ensures.asks)
      ];
    }

pub returns-in_default-pass_at-clause-later : goal.returns-in_default-pass_at-clause-later
returns-in_default-pass_at-clause-later g c =
    rw c.in_default-pass_at.ensures.none c.loop-steps.invariant.later
