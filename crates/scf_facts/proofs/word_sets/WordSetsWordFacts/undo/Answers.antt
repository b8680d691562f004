use Rattle.scf_facts.proofs.Common.{common_steps, arith}
use Rattle.scf_facts.proofs.Levels.{closed}
use Rattle.scf_facts.proofs.word_sets.WordSetsWordFacts.undo.Goals as goal

pub returns-in-Some-clause-law_undo : goal.returns-in-Some-clause-law_undo
returns-in-Some-clause-law_undo c = grind (arith, common_steps, closed)
