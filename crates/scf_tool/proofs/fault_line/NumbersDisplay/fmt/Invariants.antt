use Rattle.std.specs.Fmt.{HasWritten, IsPlainFormatter}
use Rattle.scf_tool.proofs.Common.{flat_map, map, take}
use Rattle.scf_tool.specs.Faults.{number_of, number_text}
use Rattle.scf_tool.proofs.fault_line.NumbersDisplay.fmt.Given as goal

abbrev pub invariant-loop-number : goal.invariant-loop-number
invariant-loop-number g l =
    IsPlainFormatter l.fn.f → HasWritten g.W.Write.write_str_gives l.fn.f
    (flat_map number_text (map number_of (take l.number-index l.self.0.now))) l.f
