use Rattle.scf_compare.proofs.Common.{arith, ints, common_steps}
use Rattle.scf_compare.proofs.Stacks.{newest_decides, older_decide}
use Rattle.scf_compare.proofs.stack.decided_at.Goals as goal

pub returns-then-rank-clause-decides : goal.returns-then-rank-clause-decides
returns-then-rank-clause-decides c = grind (arith, common_steps, ints, older_decide)

pub returns-else-rank-clause-decides : goal.returns-else-rank-clause-decides
returns-else-rank-clause-decides c = grind (arith, common_steps, ints, newest_decides)
