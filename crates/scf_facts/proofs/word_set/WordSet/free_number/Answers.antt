use Rattle.scf_facts.proofs.Common.{◌≡◌, arith}
use Rattle.scf_facts.proofs.Ones.{ones_of_both}
use Rattle.scf_facts.proofs.word_set.WordSet.free_number.Goals as goal

-- a search among the values of 16 bits takes fewer than 2^16 tries
pub returns-clause-ends : goal.returns-clause-ends
returns-clause-ends c = λ masks few among gave_up.
    let same : c.deref-2.result.now ≡ c.args.self.now.refuted = grind arith in
    let search = c.free_number.ensures.ends masks 16 (rw same among) (omega (arith, ones_of_both masks, few)) in
    absurd (omega (arith, search.1 gave_up, c.most_tries-tries.ensures masks few among))
