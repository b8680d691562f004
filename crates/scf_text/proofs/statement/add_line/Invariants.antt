use Rattle.scf_text.proofs.Common.{◌≡◌, ◌+◌, List, ◌++◌, length, Statement, others_in, IsLeft, IsLinePart, part_statements}
use Rattle.scf_text.proofs.statement.add_line.Given as goal

abbrev pub invariant-statements : goal.invariant-statements
invariant-statements l = record {
  part : IsLinePart l.text l.part.line l.part.start l.part.bytes.now;
  end : l.part.start + length l.part.bytes.now ≡ l.line.start + length l.line.bytes.now;
  left : (all remaining : List Statement)
      → IsLeft l.text l.line.start all (part_statements l.line.line l.line.bytes.now ++ remaining) l.fn.labels.items
      l.fn.parsed_insns.items
      → IsLeft l.text l.part.start all (part_statements l.part.line l.part.bytes.now ++ remaining) l.labels.items
      l.parsed_insns.items;
}

abbrev pub decreases-statements : goal.decreases-statements
decreases-statements l = length (others_in l.part.bytes.now)
