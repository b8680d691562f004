use Rattle.std.specs.Fmt.{HasWritten, IsPlainFormatter}
use Rattle.scf_tool.proofs.Common.{argument_text, take, flat_map}
use Rattle.scf_tool.proofs.reporting.ArgumentsDisplay.fmt.Given as goal

abbrev pub invariant-loop-argument : goal.invariant-loop-argument
invariant-loop-argument g l =
    IsPlainFormatter l.fn.f → HasWritten g.W.Write.write_str_gives l.fn.f
    (flat_map argument_text (take l.argument-index l.self.0.now)) l.f
