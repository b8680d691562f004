use Rattle.std.specs.List.{join_by}
use Rattle.scf_tool.proofs.Common.{◌≡◌, ◌++◌, ◌∷◌, codes, get_or, string_bytes, take}
use Rattle.scf_tool.specs.RegionLines.{interval_text}
use Rattle.scf_tool.proofs.region_lines.push_intervals.Given as goal

abbrev pub invariant-loop-interval : goal.invariant-loop-interval
invariant-loop-interval l =
    string_bytes l.text ≡ string_bytes l.fn.text ++ join_by interval_text (codes ",")
    (get_or l.intervals 0 (record { low = 0; high = 0 }) ∷ take l.interval-index l.later)
