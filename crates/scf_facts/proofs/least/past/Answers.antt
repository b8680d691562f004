use Rattle.std.proofs.Common.{arith}
use Rattle.std.proofs.lemmas.Grind.{common_steps}
use Rattle.scf_facts.proofs.LeastNumber.{mismatch}
use Rattle.scf_facts.proofs.least.past.Goals as goal

pub returns-clause-none : goal.returns-clause-none
returns-clause-none c = grind (arith, common_steps, c.in_ok-index.ensures.some, mismatch, c.from.ensures)
