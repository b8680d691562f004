use Rattle.scf_compile.proofs.Common.{◌+◌, ◌*◌, ◌<◌, ◌^◌, All, List, length, Insn, AreValuesPut, IsArgumentValue}
use Rattle.scf_compile.proofs.values.put_values.Given as goal

-- with what is put for the remaining values, all of them are looked for
abbrev pub invariant-loop-alloc : goal.invariant-loop-alloc
invariant-loop-alloc l = record {
  code : 0 < length l.code.items;
  fine : All (IsArgumentValue l.architecture) l.remaining.items;
  small : length l.code.items + 8 * length l.remaining.items < 2 ^ 32;
  put : (after : List Insn) → AreValuesPut l.architecture l.remaining.items l.code.items after
      → AreValuesPut l.architecture l.fn.values.items l.fn.code.items after;
}

abbrev pub decreases-loop-alloc : goal.decreases-loop-alloc
decreases-loop-alloc l = length l.remaining.items
