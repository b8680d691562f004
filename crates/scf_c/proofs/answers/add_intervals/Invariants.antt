use Rattle.std.proofs.Common.{◌≡◌, ◌++◌, map, take}
use Rattle.scf_c.specs.Answers.{interval_fact}
use Rattle.scf_c.proofs.answers.add_intervals.Given as goal

abbrev pub invariant-loop-interval : goal.invariant-loop-interval
invariant-loop-interval l =
    l.facts.items ≡ l.fn.facts.items ++ map (interval_fact l.index) (take l.interval-index l.intervals)
