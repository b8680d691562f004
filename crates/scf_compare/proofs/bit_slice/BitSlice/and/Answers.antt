use Rattle.scf_compare.proofs.MaskedSides.{masked_and}
use Rattle.scf_compare.proofs.bit_slice.BitSlice.and.Goals as goal

pub returns-clause-masked : goal.returns-clause-masked
returns-clause-masked c = λ masks is of_v. masked_and masks c.args.self c.args.v c.ranges.v.fits is of_v
