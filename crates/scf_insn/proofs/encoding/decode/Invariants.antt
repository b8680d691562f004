use Rattle.scf_insn.proofs.Common.{◌≡◌, ◌%◌, ◌++◌, length, AllByRecursion, IsInsn, program_bytes}
use Rattle.scf_insn.proofs.encoding.decode.Given as goal

abbrev pub invariant-loop-first : goal.invariant-loop-first
invariant-loop-first l = record {
  bytes : l.bytes ≡ program_bytes l.insns.items ++ l.remaining;
  whole : length l.remaining % 8 ≡ 0;
  widths : AllByRecursion IsInsn l.insns.items;
}

abbrev pub decreases-loop-first : goal.decreases-loop-first
decreases-loop-first l = length l.remaining
