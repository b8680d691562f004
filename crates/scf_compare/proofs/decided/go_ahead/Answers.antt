use Rattle.scf_compare.proofs.Common.{arith}
use Rattle.scf_compare.proofs.Steps.{later, later_both, passed_pending, stepped}
use Rattle.scf_compare.proofs.decided.go_ahead.Goals as goal

pub returns-then-waits_at : goal.returns-then-waits_at
returns-then-waits_at g c =
    later_both _ _ _ _ _ _ _ c.loop-taken.invariant.later
    (passed_pending _ _ _ _ _ _ _ c.in-Some.ensures.decided c.pass-passed.ensures.later)

pub loop-taken-preserved : goal.loop-taken-preserved
loop-taken-preserved g c = record {
  later = later _ _ _ _ _ _ _ _ _ c.loop-taken.invariant.later c.in-Some.ensures.decided
      (stepped _ _ _ _ _ _ _ _ c.pass-passed.ensures.later c.step.ensures);
  most = omega (arith, c.pass-passed.ensures.most);
}
