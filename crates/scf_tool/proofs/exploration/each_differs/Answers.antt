use Rattle.scf_compare.specs.Sides.{behavior_of}
use Rattle.scf_tool.proofs.DifferenceLemmas.{each_differs}
use Rattle.scf_tool.proofs.exploration.each_differs.Goals as goal

pub returns : goal.returns
returns c = λ left right scope limit masks regions few of_left of_right are.
    each_differs (behavior_of left) (behavior_of right) scope limit regions are
    (are.decided masks few of_left of_right)
