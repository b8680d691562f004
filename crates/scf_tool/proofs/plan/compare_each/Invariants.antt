use Rattle.scf_tool.proofs.Common.{take}
use Rattle.scf_tool.specs.internal.Plans.{AreFoundSoFar}
use Rattle.scf_tool.proofs.plan.compare_each.Given as goal

abbrev pub invariant-loop-pairing : goal.invariant-loop-pairing
invariant-loop-pairing l = AreFoundSoFar l.relation l.limit l.fn.shared (take l.pairing-index l.pairings)
    l.findings.items l.left
