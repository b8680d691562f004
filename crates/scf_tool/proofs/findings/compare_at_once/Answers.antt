use Rattle.scf_compare.specs.Sides.{Behavior}
use Rattle.scf_tool.proofs.Common.{None, map}
use Rattle.scf_tool.proofs.PlanLemmas.{found_at_once}
use Rattle.scf_tool.proofs.SideLemmas.{of_side}
use Rattle.scf_tool.specs.Inputs.{named_of}
use Rattle.scf_tool.specs.JointFindings.{AreFindings, joint_finding}
use Rattle.scf_request.specs.declared.request.Scopes.TheVariants.{AtOnce}
use Rattle.scf_tool.proofs.findings.compare_at_once.Goals as goal

pub returns : goal.returns
returns c =
    let sides = c.args.sides.now in
    let tables = map named_of sides.tables.items in
    let findings = c.in_ok-findings.findings.items in
    let found = rw (c.limit_of-limit.ensures, c.deref.ensures.value) at c.in_ok-findings.ensures in
    let at_once = found_at_once c.args.comparison c.args.scope c.side.result sides.of_each sides.right tables
    c.in_ok-pairings.pairings.items findings c.in_ok-pairings.ensures found in
    rw (c.joint_finding.ensures, c.deref-2.ensures.value)
    (of_side
    (λ (left : Behavior). AreFindings c.args.comparison (AtOnce c.args.scope) sides.of_each left sides.right tables
    (record { joint = joint_finding findings; calls = None }))
    sides.left c.side.result c.side.ensures at_once)
