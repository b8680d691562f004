use Rattle.std.specs.Fmt.{HasWritten, IsPlainFormatter}
use Rattle.scf_tool.proofs.Common.{name_line, string_bytes, take, flat_map, map}
use Rattle.scf_tool.proofs.left_out.NameLinesDisplay.fmt.Given as goal

abbrev pub invariant-loop-name : goal.invariant-loop-name
invariant-loop-name g l =
    IsPlainFormatter l.fn.f → HasWritten g.W.Write.write_str_gives l.fn.f
    (flat_map (name_line l.word) (map string_bytes (take l.name-index l.self.1.now))) l.f
