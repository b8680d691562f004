-- What is known bit by bit of results, and of the least and the greatest.
use Rattle.std.proofs.Math.Nat.{add-mul, mul-add-div_right}
use Rattle.std.proofs.lemmas.Nat.Bits.{bit_at_cat_low}
use Rattle.scf_compare.proofs.Common.{bit_at-lt, div-add-mod', div-lt_iff_lt-mul, mod-lt, ◌≡◌, ◌≢◌, ℕ, ◌+◌, ◌-◌, ◌*◌, ◌/◌, ◌%◌, ◌<◌, ◌≤◌, ◌^◌, eqb, refl, sym, ap, ◌∙◌, arith, bit_and, bit_or, bit_xor, inl, inr, Bits, HasBits, IsLowEnd, and_comm, and_le_l, and_le_r, and_mask, and_mod, and_self, and_shr, and_twice, at_bit, bit_at, bit_at-trailing_ones, bit_at_not, bit_at_ones, bit_at_ones_above, cases_eq, cases_lt, div-mul-le_self, eq-eqb, kept, le-div, le_or_l, mod-eq_of_lt, mod-mod-pow, mul-le-mul, mul-le-mul_left, mul-mod, mul-mod_left, ne_eqb, one_shl, ones_shl, or_low_ones, or_lt, or_zero_r, part_of, pow_mono, pow_pos, same_from_bits, same_from_bits_below, same_from_xor, shr_le, shr_mono, trailing_le, trailing_of_zero, trailing_ones, w32, xor_lt, xor_self}
use Rattle.scf_compare.proofs.BitSlices.{and_scaled}
use Rattle.scf_compare.proofs.Bits.{each_bit, fixed, whole_word}

-- ---- results bit by bit

module _ (x y m v n w : ℕ) (first : bit_and x m ≡ v) (second : bit_and y n ≡ w) where
  pub and_known : bit_and (bit_and x y) (bit_or (bit_and m n) (bit_or (bit_xor m v) (bit_xor n w)))
      ≡ bit_and (bit_and v w) (bit_or (bit_and m n) (bit_or (bit_xor m v) (bit_xor n w)))
  and_known = same_from_bits _ _ (λ i. grind (arith, each_bit, at_bit i first, at_bit i second))

  pub or_known : bit_and (bit_or x y) (bit_or (bit_and m n) (bit_or v w))
      ≡ bit_and (bit_or v w) (bit_or (bit_and m n) (bit_or v w))
  or_known = same_from_bits _ _ (λ i. grind (arith, each_bit, at_bit i first, at_bit i second))

  pub xor_known : bit_and (bit_xor x y) (bit_and m n) ≡ bit_and (bit_xor v w) (bit_and m n)
  xor_known = same_from_bits _ _ (λ i. grind (arith, each_bit, at_bit i first, at_bit i second))

-- ---- shifts

pub left_known : (x m v k : ℕ) → bit_and x m ≡ v
    → bit_and (x * 2 ^ k % 2 ^ 32) (m * 2 ^ k % 2 ^ 32) ≡ bit_and (v * 2 ^ k % 2 ^ 32) (m * 2 ^ k % 2 ^ 32)
left_known x m v k e =
    rw (← and_mod (x * 2 ^ k) (m * 2 ^ k) 32, ← and_mod, ← and_scaled x m k, ← and_scaled, ← kept x m v e) refl

-- the low bits of a number modulo 2^32 are those of the number
low_bits : (n k : ℕ) → k ≤ 32 → n % 2 ^ 32 % 2 ^ k ≡ n % 2 ^ k
low_bits n k within =
    let whole : 32 - k + k ≡ 32 = omega arith in
    rw whole at (mod-mod-pow n (32 - k) k)

-- a shift to the left leaves no low bit set
pub left_clears : (x k : ℕ) → k < 32 → bit_and (x * 2 ^ k % 2 ^ 32) (1 * 2 ^ k % 2 ^ 32 - 1) ≡ 0
left_clears x k within =
    let few : k ≤ 32 = omega arith in
    rw (one_shl k 32 within, and_mask (x * 2 ^ k % 2 ^ 32) k, low_bits (x * 2 ^ k) k few) (mul-mod_left x (2 ^ k))

pub right_known : (x m v k : ℕ) → bit_and x m ≡ v
    → bit_and (x / 2 ^ k) (m / 2 ^ k) ≡ bit_and (v / 2 ^ k) (m / 2 ^ k)
right_known x m v k e = rw (← and_shr x m k, ← and_shr, ← kept x m v e) refl

-- ---- the least and the greatest

pub value_least : (x m v : ℕ) → bit_and x m ≡ v → v ≤ x
value_least x m v e = omega (arith, e, and_le_l x m)

pub within_greatest : (x m v : ℕ) → x < 2 ^ 32 → m < 2 ^ 32 → bit_and x m ≡ v → x ≤ bit_or v (2 ^ 32 - 1 - m)
within_greatest x m v fits_x fits_m e =
    let most = bit_or v (2 ^ 32 - 1 - m) in
    let same : bit_and x most ≡ x = same_from_bits_below 32 (bit_and x most) x (omega (arith, and_le_l x most)) fits_x
    (λ i below. grind (arith, each_bit, at_bit i e, bit_at_not w32 m i fits_m below)) in
    omega (arith, same, and_le_r x most)

pub quotient_grows : (a b c d : ℕ) → a ≤ c → d ≤ b → 0 < d → a / b ≤ c / d
quotient_grows a b c d least most some =
    le-div (a / b) c d some (omega (arith, mul-le-mul_left (a / b) most, div-mul-le_self a b))

-- ---- zero

pub same_by_xor : (x y : ℕ) → eqb (bit_xor x y) 0 ≡ eqb x y
same_by_xor x y = grind (arith, cases_eq x y, xor_self, same_from_xor x y, eq-eqb, ne_eqb)

-- ---- the low end

-- the low bits of a mask that both have are known of a number by the first
low_kept : (x m n v k : ℕ) → bit_and x m ≡ v → bit_and (bit_and m n) (2 ^ k - 1) ≡ 2 ^ k - 1 → v % 2 ^ k ≡ x % 2 ^ k
low_kept x m n v k e known =
    rw (← and_mask v k, ← and_mask x k)
    (same_from_bits _ _ (λ i. grind (arith, each_bit, at_bit i e, at_bit i known)))

module _ (x y m n v w : ℕ) (first : bit_and x m ≡ v) (second : bit_and y n ≡ w) where
  second_low : (k : ℕ) → bit_and (bit_and m n) (2 ^ k - 1) ≡ 2 ^ k - 1 → w % 2 ^ k ≡ y % 2 ^ k
  second_low k known = low_kept y n m w k second (rw (and_comm n m) known)

  pub product_low : IsLowEnd (bit_and m n) (v * w) (x * y)
  product_low = λ k within known.
      cc (low_kept x m n v k first known, second_low k known, mul-mod x y (2 ^ k), mul-mod v w (2 ^ k))

-- ---- carries

-- what two numbers carry into a bit
carry : ℕ → ℕ → ℕ → ℕ
carry a b i = (a % 2 ^ i + b % 2 ^ i) / 2 ^ i

bit_of_sum : (a b i : ℕ) → bit_at (a + b) i ≡ (bit_at a i + bit_at b i + carry a b i) % 2
unfolding carry
bit_of_sum a b i =
    let p = 2 ^ i in
    let parts : a + b ≡ (a / p + b / p) * p + (a % p + b % p) =
    omega (arith, div-add-mod' a p, div-add-mod' b p, add-mul (a / p) (b / p) p) in
    let quotient : (a + b) / p ≡ a / p + b / p + (a % p + b % p) / p =
    ap (λ n. n / p) parts ∙ mul-add-div_right (pow_pos i) (a / p + b / p) (a % p + b % p) in
    omega (arith, quotient)

carry_below : (a b i : ℕ) → carry a b i < 2
unfolding carry
carry_below a b i = (div-lt_iff_lt-mul (pow_pos i)).1 (omega (arith, mod-lt a (pow_pos i), mod-lt b (pow_pos i)))

carry_grows : (a b c d i : ℕ) → a % 2 ^ i ≤ c % 2 ^ i → b % 2 ^ i ≤ d % 2 ^ i → carry a b i ≤ carry c d i
unfolding carry
carry_grows a b c d i first second = shr_mono i (omega (arith, first, second))

-- the low bits of a number are at least those under a mask, and at most those of a number that has all of its bits
least_low : (x m v i : ℕ) → bit_and x m ≡ v → v % 2 ^ i ≤ x % 2 ^ i
least_low x m v i e = rw (← e, and_mod x m i) (and_le_l (x % 2 ^ i) (m % 2 ^ i))

most_low : (x u i : ℕ) → bit_and x u ≡ x → x % 2 ^ i ≤ u % 2 ^ i
most_low x u i all =
    let same : bit_and (x % 2 ^ i) (u % 2 ^ i) ≡ x % 2 ^ i = sym (and_mod x u i) ∙ ap (λ n. n % 2 ^ i) all in
    omega (arith, same, and_le_r (x % 2 ^ i) (u % 2 ^ i))

-- a number has no bit that the greatest one with its known bits lacks, and a known bit is that one's
pub among_greatest : (x m v : ℕ) → x < 2 ^ 32 → m < 2 ^ 32 → bit_and x m ≡ v → bit_and x (bit_or v (2 ^ 32 - 1 - m)) ≡ x
among_greatest x m v fits_x fits_m e =
    same_from_bits_below 32 _ x (omega (arith, and_le_l x (bit_or v (2 ^ 32 - 1 - m)))) fits_x
    (λ i below. grind (arith, each_bit, at_bit i e, bit_at_not w32 m i fits_m below))

bit_known : (x m v i : ℕ) → bit_and x m ≡ v → bit_at m i ≡ 1 → bit_at v i ≡ bit_at x i
bit_known x m v i e one = grind (arith, each_bit, at_bit i e)

bit_of_greatest : (m v i : ℕ) → m < 2 ^ 32 → i < 32 → bit_at m i ≡ 1
    → bit_at (bit_or v (2 ^ 32 - 1 - m)) i ≡ bit_at v i
bit_of_greatest m v i fits below one = grind (arith, each_bit, bit_at_not w32 m i fits below)

-- where both bits are known, and the least numbers carry what the greatest ones do, so do all
same_carried : (x y m n v w i : ℕ) → x < 2 ^ 32 → y < 2 ^ 32 → m < 2 ^ 32 → n < 2 ^ 32 → i < 32
    → bit_and x m ≡ v → bit_and y n ≡ w → bit_at m i ≡ 1 → bit_at n i ≡ 1
    → bit_at (v + w) i ≡ bit_at (bit_or v (2 ^ 32 - 1 - m) + bit_or w (2 ^ 32 - 1 - n)) i
    → bit_at (x + y) i ≡ bit_at (v + w) i
same_carried x y m n v w i fits_x fits_y fits_m fits_n below first second of_m of_n same =
    let u = bit_or v (2 ^ 32 - 1 - m) in
    let t = bit_or w (2 ^ 32 - 1 - n) in
    let low = carry_grows v w x y i (least_low x m v i first) (least_low y n w i second) in
    let high = carry_grows x y u t i (most_low x u i (among_greatest x m v fits_x fits_m first))
    (most_low y t i (among_greatest y n w fits_y fits_n second)) in
    let of_x = bit_known x m v i first of_m in
    let of_y = bit_known y n w i second of_n in
    let of_u = bit_of_greatest m v i fits_m below of_m in
    let of_t = bit_of_greatest n w i fits_n below of_n in
    omega (
      arith,
      low,
      high,
      of_x,
      of_y,
      of_u,
      of_t,
      same,
      carry_below v w i,
      carry_below x y i,
      carry_below u t i,
      bit_of_sum v w i,
      bit_of_sum x y i,
      bit_of_sum u t i,
      bit_at-lt x i,
      bit_at-lt y i,
    )

low_bit : (n i : ℕ) → i < 32 → bit_at (n % 2 ^ 32) i ≡ bit_at n i
low_bit n i below =
    sym (bit_at_cat_low (n / 2 ^ 32) 32 (n % 2 ^ 32) i below) ∙ ap (λ k. bit_at k i) (div-add-mod' n (2 ^ 32))

module _ (x y m n v w : ℕ) (fits_x : x < 2 ^ 32) (fits_y : y < 2 ^ 32) (fits_m : m < 2 ^ 32) (fits_n : n < 2 ^ 32)
    (first : bit_and x m ≡ v) (second : bit_and y n ≡ w) where
  pub sum_known : let least = (v + w) % 2 ^ 32 in
      let most = (bit_or v (2 ^ 32 - 1 - m) + bit_or w (2 ^ 32 - 1 - n)) % 2 ^ 32 in
      let known = bit_and (bit_and m n) (2 ^ 32 - 1 - bit_xor least most) in
      bit_and ((x + y) % 2 ^ 32) known ≡ bit_and least known
  sum_known =
      let l = v + w in
      let g = bit_or v (2 ^ 32 - 1 - m) + bit_or w (2 ^ 32 - 1 - n) in
      let differ = bit_xor (l % 2 ^ 32) (g % 2 ^ 32) in
      let fits_differ : differ < 2 ^ 32 = xor_lt 32 (l % 2 ^ 32) (g % 2 ^ 32) (omega arith) (omega arith) in
      same_from_bits_below 32 _ _ (omega (arith, and_le_l ((x + y) % 2 ^ 32) (bit_and (bit_and m n) (2 ^ 32 - 1 - differ))))
      (omega (arith, and_le_l (l % 2 ^ 32) (bit_and (bit_and m n) (2 ^ 32 - 1 - differ))))
      (λ i below.
      let carried = same_carried x y m n v w i fits_x fits_y fits_m fits_n below first second in
      grind (
        arith,
        each_bit,
        carried,
        low_bit (x + y) i below,
        low_bit l i below,
        low_bit g i below,
        bit_at_not w32 differ i fits_differ below,
      ))

-- the low bits that a mask has
low_ones : (m k : ℕ) → m < 2 ^ 32 → k ≡ trailing_ones w32 m → (k ≤ 32) × (bit_and m (2 ^ k - 1) ≡ 2 ^ k - 1)
low_ones m k fits count = elim (cases_eq m (2 ^ 32 - 1)) [
  | inl most ↦
      let all : k ≡ 32 = count ∙ ap (trailing_ones w32) most ∙ trailing_of_zero 32 in
      (omega arith, rw (all, most) (and_self (2 ^ 32 - 1)))
  | inr less ↦
      let (within, _, each) = bit_at-trailing_ones w32 m (omega arith) in
      let ones = λ (i : ℕ). cases_lt i k in
      (omega arith, same_from_bits _ _ (λ i. grind (arith, each_bit, ones i, each i, bit_at_ones k i, bit_at_ones_above k i)))
]

pub low_end : (m a b k : ℕ) → m < 2 ^ 32 → k ≡ trailing_ones w32 m → IsLowEnd m a b
    → bit_and (b % 2 ^ 32) ((1 * 2 ^ k % 2 ^ 64 - 1) % 2 ^ 32) ≡ bit_and (a % 2 ^ 32) ((1 * 2 ^ k % 2 ^ 64 - 1) % 2 ^ 32)
low_end m a b k fits count same =
    let (within, known) = low_ones m k fits count in
    let below : k < 64 = omega arith in
    let ones : 2 ^ k - 1 < 2 ^ 32 = omega (arith, pow_mono within, pow_pos k) in
    rw (one_shl k 64 below, mod-eq_of_lt ones, and_mask (b % 2 ^ 32) k, and_mask (a % 2 ^ 32) k, low_bits b k within, low_bits a k within)
    (sym (same k within known))

-- ---- differences

pub inverted_known : (x m v : ℕ) → x < 2 ^ 32 → v < 2 ^ 32 → bit_and x m ≡ v
    → bit_and (2 ^ 32 - 1 - x) m ≡ bit_and (2 ^ 32 - 1 - v) m
inverted_known x m v fits fits_v e = same_from_bits_below 32 _ _ (omega (arith, and_le_l (2 ^ 32 - 1 - x) m))
    (omega (arith, and_le_l (2 ^ 32 - 1 - v) m))
    (λ i below. grind (arith, each_bit, at_bit i e, bit_at_not w32 x i fits below, bit_at_not w32 v i fits_v below))

pub difference : (x y : ℕ) → x < 2 ^ 32 → y < 2 ^ 32
    → (x + 2 ^ 32 - y) % 2 ^ 32 ≡ 2 ^ 32 - 1 - (2 ^ 32 - 1 - x + y) % 2 ^ 32
difference x y fits_x fits_y = omega arith

-- ---- what functions cite

pub ruleset result_laws = (fixed, whole_word, difference)

pub ruleset sum_laws = (sum_known, and_twice)

pub ruleset bit_laws = (and_known, or_known, xor_known, left_known, left_clears, right_known, inverted_known, low_end, and_twice)
