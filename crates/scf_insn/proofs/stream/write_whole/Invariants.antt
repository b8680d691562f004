use Rattle.scf_insn.proofs.Common.{length}
use Rattle.scf_insn.proofs.Written.{TakesUpTo}
use Rattle.scf_insn.proofs.stream.write_whole.Given as goal

abbrev pub invariant-loop-remaining : goal.invariant-loop-remaining
invariant-loop-remaining g l =
    TakesUpTo (g.S.Sink.contents l.fn.sink) l.bytes l.remaining (g.S.Sink.contents l.sink) (g.S.Sink.failures l.fn.sink)
    (g.S.Sink.failures l.sink)

abbrev pub decreases-loop-remaining : goal.decreases-loop-remaining
decreases-loop-remaining g l = length l.remaining
