use Rattle.scf_compile.proofs.Common.{drop, Answer, StandsFor}
use Rattle.scf_compile.proofs.ranges.are_alike.Given as goal

-- if the rules from an index on stand for one another, all do
abbrev pub invariant-loop-i : goal.invariant-loop-i
invariant-loop-i l = (default : Answer) → StandsFor default (drop l.i l.rules) (drop l.i l.others) → StandsFor default l.rules l.others
