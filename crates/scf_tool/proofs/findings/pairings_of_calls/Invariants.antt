use Rattle.scf_tool.proofs.Common.{◌≡◌, map, take}
use Rattle.scf_tool.specs.internal.Plans.{pairing_of_call}
use Rattle.scf_tool.proofs.findings.pairings_of_calls.Given as goal

abbrev pub invariant-loop-call : goal.invariant-loop-call
invariant-loop-call l =
    l.pairings.items ≡ map (pairing_of_call l.left l.right l.table.architecture) (take l.call-index l.calls)
