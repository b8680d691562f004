use Rattle.scf_insn.proofs.Common.{take, program_bytes, TakesAll}
use Rattle.scf_insn.proofs.encoding.write_program.Given as goal

abbrev pub invariant-loop-insn : goal.invariant-loop-insn
invariant-loop-insn g l =
    TakesAll (g.S.Sink.contents l.fn.sink) (program_bytes (take l.insn-index l.insns)) (g.S.Sink.contents l.sink)
    (g.S.Sink.failures l.fn.sink) (g.S.Sink.failures l.sink)
