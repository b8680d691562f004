use Rattle.scf_profile.proofs.Common.{◌≡◌, ◌+◌, ◌<◌, ◌≤◌, length, lines, AreCallNumbers, BeginWithCall, names_of, with_lines, table_of}
use Rattle.scf_profile.proofs.table.CallTable.read.Given as goal

-- what was read and the other lines give what the text states
abbrev pub invariant-loop-remaining : goal.invariant-loop-remaining
invariant-loop-remaining l = record {
  so_far : with_lines (l.number + 1) (names_of l.numbers.entries) (lines l.remaining) ≡ table_of l.text;
  counted : l.number + length l.remaining ≤ length l.text;
  range : AreCallNumbers (names_of l.numbers.entries);
  begins : BeginWithCall (lines l.remaining) → BeginWithCall (lines l.text);
  some : 0 < length l.numbers.entries → BeginWithCall (lines l.text);
}

abbrev pub decreases-loop-remaining : goal.decreases-loop-remaining
decreases-loop-remaining l = length l.remaining
