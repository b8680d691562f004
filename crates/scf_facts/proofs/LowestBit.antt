-- The lowest bit of a mask.
use Rattle.scf_facts.proofs.Common.{◌≡◌, ℕ, ◌*◌, ◌-◌, ◌%◌, ◌<◌, ◌^◌, ◌∙◌, ap, sym, arith, bit_and, w32, IsPowerOfTwo, count_trailing_zeros, one_shl, pow_pos, and_assoc, and_pow, bit_at-trailing_zeros, ones_shl, IsHighMask}
use Rattle.scf_facts.proofs.MaskLaws.{and_twice}

pub lowest_power : (m : ℕ) → 0 < m → m < 2 ^ 32 → IsPowerOfTwo (1 * 2 ^ count_trailing_zeros 32 m % 2 ^ 32)
lowest_power m some fits = (count_trailing_zeros 32 m, one_shl _ 32 (bit_at-trailing_zeros w32 m some fits).0)

pub lowest_some : (m : ℕ) → 0 < m → m < 2 ^ 32 → 0 < 1 * 2 ^ count_trailing_zeros 32 m % 2 ^ 32
lowest_some m some fits = rw (one_shl _ 32 (bit_at-trailing_zeros w32 m some fits).0) (pow_pos _)

-- it is one of the mask's bits
pub lowest_among : (m : ℕ) → 0 < m → m < 2 ^ 32
    → bit_and m (1 * 2 ^ count_trailing_zeros 32 m % 2 ^ 32) ≡ 1 * 2 ^ count_trailing_zeros 32 m % 2 ^ 32
lowest_among m some fits =
    rw (one_shl _ 32 (bit_at-trailing_zeros w32 m some fits).0, and_pow m, (bit_at-trailing_zeros w32 m some fits).1)
    (omega arith)

pub lowest_part : (m x : ℕ) → 0 < m → m < 2 ^ 32 → bit_and x (1 * 2 ^ count_trailing_zeros 32 m % 2 ^ 32)
    ≡ bit_and (bit_and x m) (1 * 2 ^ count_trailing_zeros 32 m % 2 ^ 32)
lowest_part m x some fits = sym (and_assoc _ x m ∙ ap (bit_and x) (lowest_among m some fits))

pub high_mask : (m : ℕ) → 0 < m → m < 2 ^ 32 → m ≡ (2 ^ 32 - 1) * 2 ^ count_trailing_zeros 32 m % 2 ^ 32 → IsHighMask m
high_mask m some fits e =
    let index = (bit_at-trailing_zeros w32 m some fits).0 in
    (count_trailing_zeros 32 m, index, e ∙ ones_shl 32 _ (omega arith))

pub ruleset lowest = (lowest_power, lowest_some, lowest_among, lowest_part, and_twice)
