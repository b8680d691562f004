use Rattle.scf_tool.proofs.StackLemmas.{IsStackUpTo}
use Rattle.scf_tool.proofs.filter_stack.read_stack.Given as goal

abbrev pub invariant-loop-reader : goal.invariant-loop-reader
invariant-loop-reader g l =
    IsStackUpTo g.R.Source.remaining g.R.Source.failures l.reader-index l.fn.readers l.readers l.stack
