use Rattle.scf_compare.proofs.Common.{arith, slice_index, word_below, common_steps}
use Rattle.scf_compare.proofs.BitSlices.{slice_above, slice_not_above}
use Rattle.scf_compare.proofs.bit_slice.BitSlice.is_above.Goals as goal

pub returns-then-value-self-clause-decides : goal.returns-then-value-self-clause-decides
returns-then-value-self-clause-decides c = λ words is.
    let s = c.args.self in
    slice_not_above (slice_index words s.word) s.mask s.right s.left c.args.v c.if-value-self.true

pub returns-clause-decides : goal.returns-clause-decides
returns-clause-decides c = grind (arith, common_steps, c.is_high_mask.ensures.high, slice_above, word_below)
