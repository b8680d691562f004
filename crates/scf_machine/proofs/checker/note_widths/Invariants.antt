use Rattle.scf_machine.proofs.Common.{take, AllByRecursion, IsInsn}
use Rattle.scf_machine.proofs.checker.note_widths.Given as goal

abbrev pub invariant-loop-insn : goal.invariant-loop-insn
invariant-loop-insn l = AllByRecursion IsInsn (take l.insn-index l.insns)
