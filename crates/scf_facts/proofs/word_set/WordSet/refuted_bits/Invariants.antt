use Rattle.scf_facts.proofs.Common.{ℕ}
use Rattle.scf_facts.specs.Masks.{IsAmong, RefutesAmong}
use Rattle.scf_facts.proofs.word_set.WordSet.refuted_bits.Given as goal

abbrev pub invariant-loop-bits : goal.invariant-loop-bits
invariant-loop-bits l = (masks : ℕ) → RefutesAmong masks l.self → IsAmong l.mask masks
