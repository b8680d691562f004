use Rattle.scf_machine.proofs.Common.{◌≡◌, ◌-◌, List, length, words_of, State, IsAt}
use Rattle.scf_machine.proofs.machine.run_to_end.Given as goal

abbrev pub invariant-loop-answer : goal.invariant-loop-answer
invariant-loop-answer l = record {
  earlier : List State;
  at : IsAt l.program (words_of l.call) l.registers earlier;
  count : l.steps ≡ length earlier;
}

abbrev pub decreases-loop-answer : goal.decreases-loop-answer
decreases-loop-answer l = length l.program - l.registers.pc
