use Rattle.scf_text.proofs.Common.{◌≡◌, List, ◌++◌, drop, AllByRecursion, IsInsn, Insn, SaysEach, targets_fault, indices_view, parsed_insns_view}
use Rattle.scf_text.proofs.assembler.resolve_all.Given as goal

abbrev pub invariant-loop-at : goal.invariant-loop-at
invariant-loop-at l = record {
  faults : targets_fault (indices_view l.symbols) l.at (parsed_insns_view (drop l.at l.symbols.parsed_insns.now)) ≡ targets_fault
      (indices_view l.symbols) 0 (parsed_insns_view l.symbols.parsed_insns.now);
  says : (more : List Insn) → SaysEach (indices_view l.symbols) l.at (parsed_insns_view (drop l.at l.symbols.parsed_insns.now)) more
      → SaysEach (indices_view l.symbols) 0 (parsed_insns_view l.symbols.parsed_insns.now) (l.insns.items ++ more);
  fields : (more : List Insn) → AllByRecursion IsInsn more → AllByRecursion IsInsn (l.insns.items ++ more);
}
