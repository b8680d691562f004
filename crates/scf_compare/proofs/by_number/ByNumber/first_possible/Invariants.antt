use Rattle.scf_compare.proofs.Common.{◌-◌, ◌≤◌, ℕ, List, length, IsFrom, IsWords, call_of}
use Rattle.scf_compare.proofs.by_number.ByNumber.first_possible.Given as goal

abbrev pub invariant-loop-first : goal.invariant-loop-first
invariant-loop-first g l = record {
  inside : l.last ≤ length l.numbers;
  later : l.fn.index ≤ l.least;
  behind : l.least ≤ l.first;
  told : (words : List ℕ) → IsWords words → g.F.WordFacts.allows l.facts (g.F.WordFacts.level l.facts) words
      → IsFrom l.fn.index l.numbers (call_of words) → IsFrom l.least l.numbers (call_of words);
}

abbrev pub decreases-loop-first : goal.decreases-loop-first
decreases-loop-first g l = l.last - l.first
