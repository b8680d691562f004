use Rattle.scf_facts.proofs.Common.{arith, common_steps, recursion_from_All}
use Rattle.scf_facts.proofs.Levels.{now}
use Rattle.scf_facts.proofs.atom_list.AtomListWordFacts.pick.Goals as goal

pub returns-clause-law_pick : goal.returns-clause-law_pick
returns-clause-law_pick c = simp now (grind (arith, common_steps, recursion_from_All))
