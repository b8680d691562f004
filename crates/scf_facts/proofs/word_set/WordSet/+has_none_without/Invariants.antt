use Rattle.scf_facts.proofs.word_set.WordSet.+has_none_without.Given as goal

abbrev pub decreases-has_none_without : goal.decreases-has_none_without
decreases-has_none_without l = l.bits.mask
