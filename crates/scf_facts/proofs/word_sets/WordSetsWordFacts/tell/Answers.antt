use Rattle.scf_facts.proofs.Common.{arith, common_steps}
use Rattle.scf_facts.proofs.Levels.{now}
use Rattle.scf_facts.proofs.word_sets.WordSetsWordFacts.tell.Goals as goal

pub returns-clause-law_always : goal.returns-clause-law_always
returns-clause-law_always c = simp now c.tell.ensures.always

pub returns-clause-law_never : goal.returns-clause-law_never
returns-clause-law_never c = simp now c.tell.ensures.never

pub returns-clause-told_always : goal.returns-clause-told_always
returns-clause-told_always c =
    grind (arith, common_steps, now, c.tell.ensures.always, c.tell.ensures.never, c.tell.ensures.both)

pub returns-clause-told_never : goal.returns-clause-told_never
returns-clause-told_never c =
    grind (arith, common_steps, now, c.tell.ensures.always, c.tell.ensures.never, c.tell.ensures.both)
