use Rattle.std.specs.Fmt.{HasWritten, IsPlainFormatter}
use Rattle.scf_tool.proofs.Common.{string_bytes, take, flat_map, map}
use Rattle.scf_tool.specs.Reports.{length_text}
use Rattle.scf_tool.proofs.left_out.LengthsDisplay.fmt.Given as goal

abbrev pub invariant-loop-name : goal.invariant-loop-name
invariant-loop-name g l =
    IsPlainFormatter l.fn.f → HasWritten g.W.Write.write_str_gives l.fn.f
    (flat_map length_text (map string_bytes (take l.name-index l.self.0.now))) l.f
