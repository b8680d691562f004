use Rattle.std.specs.Fmt.{HasWritten, IsPlainFormatter}
use Rattle.scf_tool.proofs.Common.{named_line, take, flat_map}
use Rattle.scf_tool.specs.internal.Words.{names_in}
use Rattle.scf_tool.proofs.reporting.NamedLinesDisplay.fmt.Given as goal

abbrev pub invariant-loop-call : goal.invariant-loop-call
invariant-loop-call g l =
    IsPlainFormatter l.fn.f → HasWritten g.W.Write.write_str_gives l.fn.f
    (flat_map (named_line l.self.0.relation (names_in l.self.0)) (take l.call-index l.self.1.now)) l.f
