use Rattle.scf_compare.proofs.Common.{ℕ, HasBits, List, slice_index}
use Rattle.scf_compare.proofs.known_bits.told_bits.Given as goal

abbrev pub invariant-loop-index : goal.invariant-loop-index
invariant-loop-index g l = (words : List ℕ) → g.F.WordFacts.allows l.facts (g.F.WordFacts.level l.facts) words
    → HasBits l.bits (slice_index words l.word)
