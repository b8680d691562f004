use Rattle.scf_profile.proofs.Common.{arith, common_steps}
use Rattle.scf_profile.proofs.named_call.names_by_number.Goals as goal

pub loop-entry-preserved : goal.loop-entry-preserved
loop-entry-preserved c = grind (arith, common_steps)
