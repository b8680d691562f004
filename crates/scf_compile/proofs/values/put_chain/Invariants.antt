use Rattle.scf_compile.proofs.Common.{drop, IsValueSearchPut}
use Rattle.scf_compile.proofs.values.put_chain.Given as goal

-- the values from an index on are looked for
abbrev pub invariant-loop-i : goal.invariant-loop-i
invariant-loop-i l = IsValueSearchPut (drop l.i l.values) l.fn.behind l.fn.code.items l.code.items l.next
