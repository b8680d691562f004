use Rattle.scf_compare.proofs.Common.{◌-◌, ◌≤◌, ℕ, List, length, IsWords, At, stack_is_node, stack_reaches, stack_size, stack_is_plain}
use Rattle.scf_compare.proofs.stack.step_from.Given as goal

abbrev pub invariant-loop-next : goal.invariant-loop-next
invariant-loop-next g l = record {
  node : stack_is_node l.filters l.registers (At l.index l.older l.node);
  reaches : (words : List ℕ) → IsWords words × g.F.WordFacts.allows l.facts (g.F.WordFacts.level l.facts) words
      → stack_reaches l.filters l.initial.registers (At l.fn.first l.fn.decided l.fn.begun) words
      → stack_reaches l.filters l.registers (At l.index l.older l.node) words;
  size : stack_size l.filters (At l.index l.older l.node) ≤ stack_size l.filters (At l.fn.first l.fn.decided l.fn.begun);
  plain : (masks : ℕ) → stack_is_plain l.filters l.initial.registers masks (At l.fn.first l.fn.decided l.fn.begun)
      → stack_is_plain l.filters l.registers masks (At l.index l.older l.node);
}

abbrev pub decreases-loop-next : goal.decreases-loop-next
decreases-loop-next g l = length l.filters - l.index
