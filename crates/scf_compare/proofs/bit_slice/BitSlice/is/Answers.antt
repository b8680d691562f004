use Rattle.scf_compare.proofs.Common.{arith, common_steps}
use Rattle.scf_compare.proofs.BitSlices.{slice_is}
use Rattle.scf_compare.proofs.bit_slice.BitSlice.is.Goals as goal

pub returns-clause-decides : goal.returns-clause-decides
returns-clause-decides c = grind (arith, common_steps, slice_is)
