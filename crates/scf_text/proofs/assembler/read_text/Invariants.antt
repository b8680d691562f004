use Rattle.scf_text.proofs.Common.{◌≡◌, ◌≤◌, ◌+◌, ◌-◌, List, length, drop, lines_of, Statement, statements_from, statements_of, IsLeft, line_at}
use Rattle.scf_text.proofs.assembler.read_text.Given as goal

abbrev pub invariant-lines : goal.invariant-lines
invariant-lines l = record {
  small : l.number + length l.remaining ≤ 1 + length l.text;
  within : length l.remaining ≤ length l.text;
  remaining : l.remaining ≡ drop (length l.text - length l.remaining) l.text;
  line : line_at l.text (length l.text - length l.remaining) ≡ l.number;
  left : (all : List Statement)
      → IsLeft l.text 0 all (statements_of l.text) l.fn.labels.items l.fn.parsed_insns.items
      → IsLeft l.text (length l.text - length l.remaining) all (statements_from l.number (lines_of l.remaining)) l.labels.items
      l.parsed_insns.items;
}

abbrev pub decreases-lines : goal.decreases-lines
decreases-lines l = length l.remaining
