use Rattle.scf_profile.proofs.Common.{arith, each}
use Rattle.scf_profile.proofs.Loops.{items_at, items_end, items_left}
use Rattle.scf_profile.proofs.forms.strings_of.Goals as goal

pub loop-item-preserved : goal.loop-item-preserved
unfolding each
loop-item-preserved c = grind (arith, items_left)

pub returns-in_default : goal.returns-in_default
unfolding each
returns-in_default c = grind (arith, items_at)

pub returns : goal.returns
unfolding each
returns c = grind (arith, items_end)
