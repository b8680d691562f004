use Rattle.scf_compare.proofs.Common.{arith, common_steps}
use Rattle.scf_compare.proofs.SeveralProfiles.{on_either}
use Rattle.scf_compare.proofs.Weights.{settled_cost, settled_costs, settled_end}
use Rattle.scf_compare.proofs.settling.SettlingComparison.step.Goals as goal

pub returns-in-Next : goal.returns-in-Next
returns-in-Next g c =
    grind (arith, common_steps, settled_cost)

pub returns-in-Branch : goal.returns-in-Branch
returns-in-Branch g c =
    grind (arith, common_steps, on_either, settled_costs)

pub returns-in-Leaf : goal.returns-in-Leaf
returns-in-Leaf g c =
    grind (arith, common_steps, settled_end)
