use Rattle.scf_tool.proofs.Common.{Contains, sym}
use Rattle.scf_tool.proofs.CallLemmas.{has_name}
use Rattle.scf_tool.proofs.findings.pairings_of_calls.Goals as goal

pub scope_of_call-requires-clause-named : goal.scope_of_call-requires-clause-named
scope_of_call-requires-clause-named c =
    let among : Contains c.args.calls.now c.call-item.result =
    (c.loop-call.call-index, c.loop-call-test.true, sym c.call-item.is) in
    has_name c.args.table.now.table c.args.calls.now c.call-item.result c.requires among
