use Rattle.std.specs.Fmt.{HasWritten, IsPlainFormatter}
use Rattle.std.specs.List.{join_by}
use Rattle.scf_tool.proofs.Common.{[], ◌∷◌, codes, get_or, map, string_bytes, take}
use Rattle.scf_tool.proofs.reporting.NamesDisplay.fmt.Given as goal

abbrev pub invariant-loop-name : goal.invariant-loop-name
invariant-loop-name g l =
    IsPlainFormatter l.fn.f → HasWritten g.W.Write.write_str_gives l.fn.f
    (join_by (λ name. name) (codes ",") (get_or (map string_bytes l.self.0.now) 0 []
    ∷ map string_bytes (take l.name-index l.later))) l.f
