use Rattle.scf_facts.proofs.Common.{get_or_default, common_steps, arith}
use Rattle.scf_facts.proofs.Levels.{now}
use Rattle.scf_facts.proofs.word_sets.WordSetsWordFacts.learn.Goals as goal

pub returns-clause-at_marks : goal.returns-clause-at_marks
returns-clause-at_marks c = grind (arith, common_steps, get_or_default)

pub returns-clause-law_learn : goal.returns-clause-law_learn
returns-clause-law_learn c = simp now c.learn.ensures.learned

pub returns-clause-exact : goal.returns-clause-exact
returns-clause-exact c = simp now c.learn.ensures.exact

pub returns-clause-among : goal.returns-clause-among
returns-clause-among c = simp now c.learn.ensures.among
