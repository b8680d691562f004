use Rattle.scf_compile.proofs.Common.{◌≡◌, ◌++◌, drop}
use Rattle.scf_compile.proofs.placing.put_front.Given as goal

-- the block's instructions from an index on stand before what stood
abbrev pub invariant-loop-i : goal.invariant-loop-i
invariant-loop-i l = l.code.items ≡ drop l.i l.block ++ l.fn.code.items
