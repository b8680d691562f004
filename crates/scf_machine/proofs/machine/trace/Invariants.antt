use Rattle.scf_machine.proofs.Common.{◌≡◌, ◌-◌, List, length, reverse, words_of, State, indices_of, IsAt}
use Rattle.scf_machine.proofs.machine.trace.Given as goal

abbrev pub invariant-loop-indices : goal.invariant-loop-indices
invariant-loop-indices l = record {
  earlier : List State;
  at : IsAt l.program (words_of l.call) l.registers earlier;
  count : length l.indices.items ≡ length earlier;
  in_order : l.indices.items ≡ reverse (indices_of earlier);
}

abbrev pub decreases-loop-indices : goal.decreases-loop-indices
decreases-loop-indices l = length l.program - l.registers.pc
