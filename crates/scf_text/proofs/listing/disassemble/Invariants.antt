use Rattle.scf_text.proofs.Common.{take, flat_map, TakesAll, line_of}
use Rattle.scf_text.proofs.listing.disassemble.Given as goal

abbrev pub invariant-loop-insn : goal.invariant-loop-insn
invariant-loop-insn g l =
    let contents = g.S.Sink.contents in
    let failures = g.S.Sink.failures in
    TakesAll (contents l.fn.sink) (flat_map line_of (take l.insn-index l.insns)) (contents l.sink)
    (failures l.fn.sink) (failures l.sink)
