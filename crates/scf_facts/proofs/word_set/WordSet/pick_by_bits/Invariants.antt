use Rattle.scf_facts.proofs.Common.{ℕ, ◌<◌, ◌^◌, bit_or, AllowsNumber}
use Rattle.scf_facts.proofs.word_set.WordSet.pick_by_bits.Given as goal

-- the known value with none of the bits so far is allowed
abbrev pub invariant-loop-index : goal.invariant-loop-index
invariant-loop-index l =
    (index : ℕ) → index < l.index → AllowsNumber l.self (bit_or l.self.known.value (2 ^ index)) → ⊥
