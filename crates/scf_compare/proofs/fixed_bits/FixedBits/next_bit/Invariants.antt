use Rattle.scf_compare.proofs.Common.{◌≡◌, ◌-◌, ◌<◌, ◌≤◌, ◌^◌, ℕ, List}
use Rattle.scf_compare.specs.Splits.{HaveBits, bits_at, open_bits}
use Rattle.scf_compare.proofs.fixed_bits.FixedBits.next_bit.Given as goal

abbrev pub invariant-loop-word : goal.invariant-loop-word
invariant-loop-word g l = record {
  have : (words : List ℕ) → g.F.WordFacts.allows l.facts (g.F.WordFacts.level l.facts) words
      → HaveBits l.fn.self.words words → HaveBits l.self.words words;
  less : open_bits l.self.words ≤ open_bits l.fn.self.words;
}

abbrev pub invariant-loop-word-2 : goal.invariant-loop-word-2
invariant-loop-word-2 g l = record {
  have : (words : List ℕ) → g.F.WordFacts.allows l.facts (g.F.WordFacts.level l.facts) words
      → HaveBits l.fn.self.words words → HaveBits l.self.words words;
  less : open_bits l.self.words ≤ open_bits l.fn.self.words;
}

abbrev pub invariant-loop-word-3 : goal.invariant-loop-word-3
invariant-loop-word-3 g l = record {
  have : (words : List ℕ) → g.F.WordFacts.allows l.facts (g.F.WordFacts.level l.facts) words
      → HaveBits l.fn.self.words words → HaveBits l.self.words words;
  less : open_bits l.self.words ≤ open_bits l.fn.self.words;
  whole : (index : ℕ) → index < l.word → (bits_at l.self.words index).mask ≡ 2 ^ 32 - 1;
}
