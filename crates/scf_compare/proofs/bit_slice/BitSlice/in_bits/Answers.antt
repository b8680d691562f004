use Rattle.scf_compare.proofs.Common.{◌<◌, ◌^◌, and_le_r, arith, bit_and, mod-eq_of_lt, slice_index}
use Rattle.scf_compare.proofs.BitSlices.{number_fits}
use Rattle.scf_compare.proofs.bit_slice.BitSlice.in_bits.Goals as goal

pub returns : goal.returns
returns c = λ words has. let bit_slice = c.args.self in
    let x = slice_index words bit_slice.word in
    let fits = number_fits x bit_slice.mask bit_slice.right bit_slice.left c.requires.fits in
    let masked = c.and_bits-masked.ensures.stands x bit_slice.mask has c.constant.ensures.1 in
    let few : bit_and x bit_slice.mask < 2 ^ 32 = omega (arith, and_le_r x bit_slice.mask) in
    let shifted = c.right_bits.ensures.stands (bit_and x bit_slice.mask) few masked in
    (fits, rw (mod-eq_of_lt fits) at (c.left_bits-bits.ensures.stands _ shifted))
