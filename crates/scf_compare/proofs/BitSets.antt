-- The bits that splits have fixed.
use Rattle.std.specs.Prelude.{count_ones, slice_set}
use Rattle.std.proofs.Common.{le_refl}
use Rattle.std.proofs.lemmas.Nat.{ones-le}
use Rattle.std.proofs.lemmas.List.Sums.{sum_by-set}
use Rattle.scf_facts.proofs.Common.{IsPowerOfTwo, and_pow}
use Rattle.scf_facts.proofs.MaskLaws.{under_power}
use Rattle.scf_facts.proofs.Ones.{more_ones, one_more}
use Rattle.scf_compare.proofs.Common.{Bits, HasBits, trailing_ones, bit_at-trailing_ones, one_shl, w32, ◌≡◌, ◌+◌, ◌*◌, ◌%◌, ◌<◌, ◌≤◌, ◌-◌, ◌^◌, ℕ, List, arith, bit_and, bit_or, common_steps, eq-eqb, eqb, false, length, refl, slice_index}
use Rattle.scf_compare.specs.Splits.{HaveBits, bits_at, open_bits}

-- a number that doesn't have a bit lacks it
pub lacks_bit : (x m : ℕ) → IsPowerOfTwo m → eqb (bit_and x m) m ≡ false → bit_and x m ≡ 0
lacks_bit x m one lacks = grind (arith, common_steps, under_power, eq-eqb)

-- the bit of a word at an index
pub power_at : (index : ℕ) → index < 32 → IsPowerOfTwo (1 * 2 ^ index % 2 ^ 32)
power_at index lt = (index, one_shl index 32 lt)

-- what is fixed of one word changes
pub have_set : (fixed : List Bits) (word : ℕ) (new : Bits) (words : List ℕ) → word < length fixed
    → HaveBits fixed words → HasBits new (slice_index words word) → HaveBits (slice_set fixed word new) words
have_set fixed word new words lt have this = λ k. grind (arith, common_steps, have k, this)

-- more bits of a word leave no more to fix
pub lacking_bits : (fixed : List Bits) (word : ℕ) (new : Bits) (m : ℕ) → word < length fixed
    → new.mask ≡ bit_or (bits_at fixed word).mask m → open_bits (slice_set fixed word new) ≤ open_bits fixed
lacking_bits fixed word new m lt more =
    let old = (bits_at fixed word).mask in
    let ones : count_ones old ≤ count_ones new.mask = rw more (more_ones _ old m (le_refl _)).0 in
    omega (
      arith,
      sum_by-set (λ bits. 32 - count_ones bits.mask) fixed word new (record { mask = 0; value = 0 }) lt,
      ones,
    )

-- one more bit leaves less
pub lacking_bit : (fixed : List Bits) (word : ℕ) (new : Bits) (m : ℕ) → word < length fixed
    → new.mask ≡ bit_or (bits_at fixed word).mask m → IsPowerOfTwo m → bit_and (bits_at fixed word).mask m ≡ 0
    → new.mask < 2 ^ 32 → open_bits (slice_set fixed word new) < open_bits fixed
lacking_bit fixed word new m lt more one apart fits =
    let old = (bits_at fixed word).mask in
    let most : count_ones new.mask ≤ 32 = ones-le 32 new.mask fits in
    let fewer : count_ones old < count_ones new.mask = rw more (one_more old m one apart) in
    omega (
      arith,
      sum_by-set (λ bits. 32 - count_ones bits.mask) fixed word new (record { mask = 0; value = 0 }) lt,
    )

pub ruleset fixings = (have_set, lacking_bits, lacking_bit)

-- the lowest bit that a mask lacks
pub lowest_lacking : (mask : ℕ) → mask + 1 < 2 ^ 32
    → let bit = 1 * 2 ^ trailing_ones w32 mask % 2 ^ 32 in IsPowerOfTwo bit × (bit_and mask bit ≡ 0)
lowest_lacking mask more =
    let (below, unset, _) = bit_at-trailing_ones w32 mask more in
    rw (one_shl _ 32 below) ((trailing_ones w32 mask, refl), rw (and_pow mask, unset) (omega arith))
