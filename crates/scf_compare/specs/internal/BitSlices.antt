-- What a filter takes of one word of the record by masks and shifts.
use Rattle.std.specs.Prelude.{◌≡◌, ◌*◌, ◌-◌, ◌/◌, ◌<◌, ◌^◌, ℕ, List, slice_index, bit_and}
use Rattle.scf_compare.specs.Masked.{IsMaskOf}
use Rattle.scf_compare.specs.declared.bit_slice.BitSlice.{BitSlice}

-- a word under a mask, shifted to the right and then to the left
abbrev pub bit_slice_value : BitSlice → List ℕ → ℕ
bit_slice_value bit_slice words =
    bit_and (slice_index words bit_slice.word) bit_slice.mask / 2 ^ bit_slice.right * 2 ^ bit_slice.left

-- A bit slice of one of the sixteen words. Neither shift loses a bit of its mask.
pub record IsBitSlice (bit_slice : BitSlice) : Type 0 where
  pub word : bit_slice.word < 16
  pub right : bit_slice.right < 32
  pub left : bit_slice.left < 32
  pub whole : bit_slice.mask / 2 ^ bit_slice.right * 2 ^ bit_slice.right ≡ bit_slice.mask
  pub fits : bit_slice.mask / 2 ^ bit_slice.right * 2 ^ bit_slice.left < 2 ^ 32

-- A bit slice that is its whole word.
pub record IsWhole (bit_slice : BitSlice) : Type 0 where
  pub right : bit_slice.right ≡ 0
  pub left : bit_slice.left ≡ 0
  pub mask : bit_slice.mask ≡ 2 ^ 32 - 1

-- a word under one of the masks, unshifted
pub record IsMaskedSlice (masks : ℕ) (bit_slice : BitSlice) : Type 0 where
  pub right : bit_slice.right ≡ 0
  pub left : bit_slice.left ≡ 0
  pub mask : IsMaskOf masks bit_slice.mask
