use Rattle.std.proofs.lemmas.Grind.{common_steps}
use Rattle.scf_facts.proofs.Common.{arith}
use Rattle.scf_facts.proofs.Levels.{opened}
use Rattle.scf_facts.proofs.word_sets.WordSetsWordFacts.mark.Goals as goal

pub returns-clause-at_marks : goal.returns-clause-at_marks
returns-clause-at_marks c = grind (arith, common_steps, c.in_ok-push.ensures.items, opened)
