use Rattle.scf_compare.specs.Sides.{behavior_of}
use Rattle.scf_tool.proofs.DifferenceLemmas.{alike_or_listed, none_differ}
use Rattle.scf_tool.proofs.exploration.none_differ.Goals as goal

pub returns-clause-alike : goal.returns-clause-alike
returns-clause-alike c = λ left right scope limit regions call are.
    alike_or_listed (behavior_of left) (behavior_of right) scope limit regions are call

pub returns-clause-none : goal.returns-clause-none
returns-clause-none c = λ left right scope limit regions.
    none_differ (behavior_of left) (behavior_of right) scope limit regions
