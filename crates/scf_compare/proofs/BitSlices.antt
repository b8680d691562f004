-- Bit slices, bit by bit.
use Rattle.scf_compare.proofs.Common.{word_below, ◌≡◌, ◌≢◌, ℕ, ◌+◌, ◌-◌, ◌*◌, ◌/◌, ◌%◌, ◌<◌, ◌≤◌, ◌^◌, ◌↔◌, true, false, eqb, refl, sym, ◌∙◌, arith, bit_and, nat_lt, eq-eqb, eqb-true, and_zero_r, and_shr, and_block, and_comm, and_le_r, and_assoc, and_mask, shl-shr, shr-shr, shr_le, pow-add, pow_pos, div-add-mod', div-eq_of_lt, div-lt_iff_lt-mul, div-mul-le_self, div-one, le-div_iff_mul-le, le-ltb, lt_of_mul-lt-mul_right, mod-eq_of_lt, mod-le, mod-lt, mul-le-mul_left, mul-lt-mul_of_pos_right, mul-mod_left, pow_mono, shr_mono, ne_eqb, beyond_mask, of_multiple, one_more, cases_lt, inl, inr, common_steps}
use Rattle.scf_compare.proofs.Bits.{whole_word}
use Rattle.scf_compare.proofs.Common.{and_twice}
use Rattle.scf_facts.specs.HighMask.{IsHighMask}

-- ---- masks and shifts

-- a word under a mask that is shifted back
pub shifted_back : (w m s : ℕ) → bit_and w (m * 2 ^ s) ≡ bit_and (w / 2 ^ s) m * 2 ^ s
shifted_back w m s =
    let parts = div-add-mod' w (2 ^ s) in
    grind (arith, and_block s (w / 2 ^ s) m (w % 2 ^ s) 0 (mod-lt w (pow_pos s)) (pow_pos s), parts, and_zero_r)

-- a word shifted to the left, under a mask
pub under_mask : (y t m : ℕ) → bit_and (y * 2 ^ t) m ≡ bit_and y (m / 2 ^ t) * 2 ^ t
under_mask y t m = grind (arith, and_comm, shifted_back)

pub and_scaled : (x m k : ℕ) → bit_and x m * 2 ^ k ≡ bit_and (x * 2 ^ k) (m * 2 ^ k)
and_scaled x m k = grind (arith, under_mask x k (m * 2 ^ k), shl-shr m k)

pub scaled : (y j k : ℕ) → y * 2 ^ j * 2 ^ k ≡ y * 2 ^ (j + k)
scaled y j k = grind (arith, pow-add)

-- the low 32 bits of a number
pub low_word : (x : ℕ) → x % 2 ^ 32 ≡ bit_and x 4294967295
low_word x = sym (and_mask x 32)

-- the number of a bit slice has 32 bits
pub number_fits : (w m r l : ℕ) → m / 2 ^ r * 2 ^ l < 2 ^ 32 → bit_and w m / 2 ^ r * 2 ^ l < 2 ^ 32
number_fits w m r l fits = omega (arith, mul-le-mul_left (2 ^ l) (shr_mono r (and_le_r w m)))

-- ---- AND

-- a mask under a number that is shifted to the left
mask_and : (m x r : ℕ) → m < 2 ^ 32 → bit_and m (x * 2 ^ r % 2 ^ 32) ≡ bit_and (m / 2 ^ r) x * 2 ^ r
mask_and m x r fits = grind (arith, shifted_back m x r, low_word, whole_word m fits, and_assoc, and_comm)

pub mask_whole : (m x r : ℕ) → m < 2 ^ 32
    → bit_and m (x * 2 ^ r % 2 ^ 32) / 2 ^ r * 2 ^ r ≡ bit_and m (x * 2 ^ r % 2 ^ 32)
mask_whole m x r fits = rw (mask_and m x r fits, shl-shr) refl

pub mask_fits : (m v r l : ℕ) → m < 2 ^ 32 → v < 2 ^ 32
    → bit_and m (v / 2 ^ l * 2 ^ r % 2 ^ 32) / 2 ^ r * 2 ^ l < 2 ^ 32
mask_fits m v r l fits fits_v =
    rw (mask_and m (v / 2 ^ l) r fits, shl-shr)
    (omega (arith, mul-le-mul_left (2 ^ l) (and_le_r (m / 2 ^ r) (v / 2 ^ l)), div-mul-le_self v (2 ^ l)))

pub slice_and : (w m v r l : ℕ) → m < 2 ^ 32
    → bit_and (bit_and w m / 2 ^ r * 2 ^ l) v ≡ bit_and w (bit_and m (v / 2 ^ l * 2 ^ r % 2 ^ 32)) / 2 ^ r * 2 ^ l
slice_and w m v r l fits =
    rw (under_mask, and_shr w m r, mask_and m (v / 2 ^ l) r fits, shifted_back, shl-shr, and_assoc) refl

-- ---- shifts

pub none_right : (w m r l : ℕ) → m < 2 ^ 32 → 32 ≤ r → bit_and w m / 2 ^ r * 2 ^ l % 2 ^ 32 ≡ 0
none_right w m r l fits far = grind (arith, div-eq_of_lt, and_le_r w m, pow_mono far)

pub none_left : (y l : ℕ) → 32 ≤ l → y * 2 ^ l % 2 ^ 32 ≡ 0
none_left y l far =
    let whole : l - 32 + 32 ≡ l = omega arith in
    rw (← whole, ← scaled) (mul-mod_left (y * 2 ^ (l - 32)) (2 ^ 32))

-- a shift to the right takes back what it can of a shift to the left
past : (x r l k : ℕ) → x / 2 ^ r * 2 ^ l / 2 ^ k ≡ x / 2 ^ (r + (k - l)) * 2 ^ (l - k)
past x r l k = elim (cases_lt k l) [
  | inl less ↦ grind (arith, scaled (x / 2 ^ r) (l - k) k, shl-shr (x / 2 ^ r * 2 ^ (l - k)) k)
  | inr more ↦ grind (arith, shr-shr (x / 2 ^ r * 2 ^ l) l (k - l), shl-shr (x / 2 ^ r) l, shr-shr x r (k - l))
]

pub right_shift : (w m r l k : ℕ) → m / 2 ^ r * 2 ^ l < 2 ^ 32
    → bit_and w m / 2 ^ r * 2 ^ l / 2 ^ k ≡ bit_and w m / 2 ^ (r + (k - l)) * 2 ^ (l - k) % 2 ^ 32
right_shift w m r l k fits =
    grind (arith, past, mod-eq_of_lt, number_fits w m r l fits, shr_le (bit_and w m / 2 ^ r * 2 ^ l) k)

-- ---- tests against a number

-- a word under a mask that loses no bit by a shift to the right
under_whole : (w m r : ℕ) → m / 2 ^ r * 2 ^ r ≡ m → bit_and w m / 2 ^ r * 2 ^ r ≡ bit_and w m
under_whole w m r whole = grind (arith, shifted_back w (m / 2 ^ r) r, shl-shr)

shifted_fits : (m u r : ℕ) → m < 2 ^ 32 → m / 2 ^ r * 2 ^ r ≡ m → u ≤ m / 2 ^ r → u * 2 ^ r % 2 ^ 32 ≡ u * 2 ^ r
shifted_fits m u r fits whole least = mod-eq_of_lt (omega (arith, mul-le-mul_left (2 ^ r) least))

pub slice_is : (w m r l v : ℕ) → m < 2 ^ 32 → m / 2 ^ r * 2 ^ r ≡ m → v / 2 ^ l ≤ m / 2 ^ r
    → v / 2 ^ l * 2 ^ l % 2 ^ 32 ≡ v
    → (eqb (bit_and w m / 2 ^ r * 2 ^ l) v ≡ true) ↔ (eqb (bit_and w m) (v / 2 ^ l * 2 ^ r % 2 ^ 32) ≡ true)
slice_is w m r l v fits whole least stays =
    grind (arith, common_steps, div-mul-le_self, mod-le, under_whole, shifted_fits, eq-eqb, eqb-true, shl-shr)

-- no number that has a bit past the mask
pub slice_isnt : (w m r l v : ℕ) → m / 2 ^ r < v / 2 ^ l → eqb (bit_and w m / 2 ^ r * 2 ^ l) v ≡ false
slice_isnt w m r l v past =
    ne_eqb _ _ (λ same. grind (arith, same, shl-shr (bit_and w m / 2 ^ r) l, shr_mono r (and_le_r w m)))

-- or one below those of the word
pub slice_below : (y l v : ℕ) → v < 2 ^ 32 → v / 2 ^ l * 2 ^ l % 2 ^ 32 ≢ v → eqb (y * 2 ^ l) v ≡ false
slice_below y l v fits lost = ne_eqb _ _ (λ same. grind (arith, same, shl-shr y l, mod-eq_of_lt fits))

-- where the mask has all bits from the `k`th on, the order of a bit slice with a number is that of the word's part from
-- the bit on with the number, shifted back
above_quotient : (w m r l k v : ℕ) → w < 2 ^ 32 → k < 32 → m ≡ 2 ^ 32 - 2 ^ k → m / 2 ^ r * 2 ^ r ≡ m
    → (v < bit_and w m / 2 ^ r * 2 ^ l) ↔ (v / 2 ^ l * 2 ^ r < w / 2 ^ k * 2 ^ k)
above_quotient w m r l k v below within high whole =
    let bits = under_whole w m r whole ∙ of_multiple w m k within high below in
    grind (arith, bits, div-lt_iff_lt-mul, lt_of_mul-lt-mul_right, mul-lt-mul_of_pos_right, pow_pos)

-- and that of the word with the last number that has the same such part
above_last : (w k n : ℕ) → (n < w / 2 ^ k * 2 ^ k) ↔ (n / 2 ^ k * 2 ^ k + (2 ^ k - 1) < w)
above_last w k n = grind (arith, div-lt_iff_lt-mul, le-div_iff_mul-le, one_more, pow_pos)

pub slice_above : (w m r l v : ℕ) → w < 2 ^ 32 → IsHighMask m → m < 2 ^ 32 → m / 2 ^ r * 2 ^ r ≡ m → v / 2 ^ l ≤ m / 2 ^ r
    → (nat_lt v (bit_and w m / 2 ^ r * 2 ^ l) ≡ true)
    ↔ (nat_lt (bit_and (v / 2 ^ l * 2 ^ r % 2 ^ 32) m + (2 ^ 32 - 1 - m)) w ≡ true)
slice_above w m r l v below (k, within, high) fits whole least =
    grind (
      arith,
      above_quotient w m r l k v below within high whole,
      above_last w k (v / 2 ^ l * 2 ^ r),
      of_multiple (v / 2 ^ l * 2 ^ r) m k within high,
      beyond_mask m k within high,
      shifted_fits m (v / 2 ^ l) r fits whole least,
      mod-lt,
      mod-eq_of_lt,
    )

pub slice_not_above : (w m r l v : ℕ) → m / 2 ^ r < v / 2 ^ l → nat_lt v (bit_and w m / 2 ^ r * 2 ^ l) ≡ false
slice_not_above w m r l v past =
    grind (arith, le-ltb, le-div_iff_mul-le, pow_pos, shr_mono r (and_le_r w m))

-- ---- ranges

pub bits_kept : (w m r l : ℕ) → m / 2 ^ r * 2 ^ l < 2 ^ 32
    → bit_and (bit_and w m / 2 ^ r * 2 ^ l) (m / 2 ^ r * 2 ^ l % 2 ^ 32) ≡ bit_and w m / 2 ^ r * 2 ^ l
bits_kept w m r l fits =
    grind (arith, common_steps, and_shr, and_twice, mod-eq_of_lt, and_scaled)

-- a multiple is at least a number where it has at least so many units
pub first_unit : (z l low : ℕ) → low ≢ 0 → (low ≤ z * 2 ^ l) ↔ ((low - 1) / 2 ^ l + 1 ≤ z)
first_unit z l low some =
    grind (arith, common_steps, div-lt_iff_lt-mul, pow_pos)

-- ---- what functions cite

pub ruleset bits_laws = (bits_kept)

pub ruleset unit_laws = (first_unit)

pub ruleset whole_laws = (whole_word, word_below, div-one)

pub ruleset and_laws = (mask_whole, mask_fits, slice_and, div-one, and_comm, whole_word)

pub ruleset shift_laws = (low_word, none_right, none_left)

pub ruleset test_laws = (slice_is, slice_isnt, slice_below, slice_above, slice_not_above, word_below)
