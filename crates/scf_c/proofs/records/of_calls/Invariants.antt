use Rattle.std.proofs.Common.{map, take}
use Rattle.scf_tool.specs.Inputs.{named_of}
use Rattle.scf_c.specs.Records.{AreOfCalls}
use Rattle.scf_c.proofs.records.of_calls.Given as goal

abbrev pub invariant-loop-owned : goal.invariant-loop-owned
invariant-loop-owned l = AreOfCalls l.left l.right (map named_of (take l.owned-index l.tables)) l.pairings.items
