use Rattle.scf_facts.proofs.AtomLaws.{allows_pushed}
use Rattle.scf_facts.proofs.Common.{get_or_default, common_steps, arith}
use Rattle.scf_facts.proofs.Levels.{now}
use Rattle.scf_facts.proofs.atom_list.AtomListWordFacts.learn.Goals as goal

pub returns-clause-at_marks : goal.returns-clause-at_marks
returns-clause-at_marks c = grind (arith, common_steps, get_or_default)

pub returns-clause-law_learn : goal.returns-clause-law_learn
returns-clause-law_learn c = λ words.
    simp now (rw c.in_ok-push.ensures.items (allows_pushed c.args.self.now.learned.items _ words))
