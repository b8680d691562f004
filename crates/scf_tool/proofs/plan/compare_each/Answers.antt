use Rattle.scf_tool.proofs.PlanLemmas.{found_more}
use Rattle.scf_tool.proofs.plan.compare_each.Goals as goal

pub loop-pairing-preserved : goal.loop-pairing-preserved
loop-pairing-preserved c =
    found_more c.args.relation c.args.limit c.args.shared _ _ c.pairing-item.result _ _ _ _ _ c.loop-pairing-test.true
    c.loop-pairing.invariant (rw c.pairing-item.is at c.in_ok-finding.ensures) c.in_ok-push.ensures.items
