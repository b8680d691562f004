use Rattle.scf_compare.proofs.stack.StackSideSideTree.step.Goals as goal

pub returns-in-At : goal.returns-in-At
returns-in-At g c = rw c.in-At.is c.step_from.ensures
