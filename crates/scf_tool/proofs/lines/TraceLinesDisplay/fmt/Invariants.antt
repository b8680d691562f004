use Rattle.std.specs.Fmt.{HasWritten, IsPlainFormatter, decimal}
use Rattle.scf_tool.proofs.Common.{◌++◌, codes, length, take, flat_map}
use Rattle.scf_tool.specs.Lines.{answer_text, steps_text}
use Rattle.scf_tool.proofs.lines.TraceLinesDisplay.fmt.Given as goal

abbrev pub invariant-loop-index : goal.invariant-loop-index
invariant-loop-index g l =
    IsPlainFormatter l.fn.f → HasWritten g.W.Write.write_str_gives l.fn.f
    (answer_text l.self.0.now.answer.0 ++ (steps_text (length l.indices) ++ (codes "path"
    ++ flat_map (λ index. codes " " ++ decimal index) (take l.index-index l.indices)))) l.f
