use Rattle.scf_compile.proofs.Common.{◌≡◌, ◌+◌, ◌++◌, drop, take}
use Rattle.scf_compile.proofs.placing.stands_behind.Given as goal

-- the instructions of the block so far stand there
abbrev pub invariant-loop-i : goal.invariant-loop-i
invariant-loop-i l = drop l.passed l.code.items ≡ take l.i l.block ++ drop (l.passed + l.i) l.code.items
