-- Affine terms of bit slices, and the ranges in which they lie.
use Rattle.std.specs.Prelude.{not}
use Rattle.std.specs.Int.Bits.{xor_add_and, xor_assoc, xor_disjoint, xor_zero_r}
use Rattle.std.specs.Int.Count.{count_leading_zeros}
use Rattle.std.proofs.Math.Pow.{mod-mod-pow}
use Rattle.std.proofs.Math.Nat.{add-mul, div-div-eq-div-mul, div-le_self, mul-add, mul-mod_left, mul_assoc, mul-pos}
use Rattle.std.proofs.lemmas.Nat.{leading_top, mod-mul-add, mul-mod_first, mul-mod_second, xor_block, xor_mod}
use Rattle.std.specs.Int.{trailing_zeros}
use Rattle.std.proofs.lemmas.Nat.Bits.{bit_at-trailing_zeros, ones_shr}
use Rattle.scf_compare.proofs.Common.{add-mod, and_assoc, and_le_r, and_mask, and_zero_r, mul-lt-mul_of_pos_right, one_shl, pow-add, shl-shr, bit_at_ones_above, div-add-mod', mul_comm, ◌≡◌, ◌≢◌, ℕ, ◌+◌, ◌-◌, ◌*◌, ◌/◌, ◌%◌, ◌<◌, ◌≤◌, ◌^◌, ◌↔◌, true, false, eqb, nat_lt, refl, sym, ap, ◌∙◌, arith, bit_and, bit_or, bit_xor, add_comm, and_comm, and_le_l, at_bit, beyond_mask, bit_at_not, bit_at_ones, cases_eq, div-eq_of_lt, div-lt_iff_lt-mul, div-one, eq-eqb, le-div_iff_mul-le, mod-lt, mul-le-mul_left, ne_eqb, cases_lt, of_multiple, one_more, or_comm, or_lt, pow_pos, same_from_bits, same_from_bits_below, w32, xor_comm, xor_lt, xor_self, word_below, inl, inr, common_steps}
use Rattle.scf_compare.proofs.BitSlices.{number_fits}
use Rattle.scf_compare.proofs.Bits.{each_bit, whole_word}
use Rattle.scf_compare.proofs.KnownBits.{quotient_grows}
use Rattle.scf_facts.specs.HighMask.{IsHighMask}
use Rattle.scf_compare.specs.internal.AffineTerms.{is_within}

-- ---- XOR

-- a number XOR all ones is its complement
pub xor_all : (x : ℕ) → x < 2 ^ 32 → bit_xor x (2 ^ 32 - 1) ≡ 2 ^ 32 - 1 - x
xor_all x fits = same_from_bits_below 32 _ _ (xor_lt 32 x (2 ^ 32 - 1) fits (omega arith)) (omega arith)
    (λ i below. grind (arith, each_bit, bit_at_not w32 x i fits below, bit_at_ones 32 i))

pub xor_complement : (x f : ℕ) → x < 2 ^ 32 → f < 2 ^ 32 → bit_xor x (2 ^ 32 - 1 - f) ≡ 2 ^ 32 - 1 - bit_xor x f
xor_complement x f fits fits_f =
    rw (← xor_all f fits_f, ← xor_all (bit_xor x f) (xor_lt 32 x f fits fits_f), xor_assoc) refl

-- a constant under an XOR changes sides
pub xor_moved : (x f v : ℕ) → (bit_xor x f ≡ v) ↔ (x ≡ bit_xor v f)
xor_moved x f v = grind (arith, common_steps, xor_assoc, xor_self, xor_zero_r)

pub xor_and : (x f v : ℕ) → bit_and (bit_xor x f) v ≡ bit_xor (bit_and x v) (bit_and f v)
xor_and x f v = same_from_bits _ _ (λ i. grind (arith, each_bit))

pub or_by_xor : (x v : ℕ) → x < 2 ^ 32 → v < 2 ^ 32 → bit_xor (bit_and x (2 ^ 32 - 1 - v)) v ≡ bit_or x v
or_by_xor x v fits fits_v =
    same_from_bits_below 32 _ _
    (xor_lt 32 _ v (omega (arith, and_le_l x (2 ^ 32 - 1 - v))) fits_v) (or_lt 32 x v fits fits_v)
    (λ i below. grind (arith, each_bit, bit_at_not w32 v i fits_v below))

-- ---- the bit slice itself

pub of_bit_slice : (y : ℕ) → y < 2 ^ 32 → y ≡ (bit_xor y 0 * 1 % 2 ^ 32 + 0) % 2 ^ 32 / 1
of_bit_slice y fits = rw (xor_zero_r y, div-one) (omega (arith, fits))

-- the term, where the factor and the divisor are 1 and nothing is added
only_xor : (y f k a d : ℕ) → y < 2 ^ 32 → f < 2 ^ 32 → k ≡ 1 → a ≡ 0 → d ≡ 1
    → (bit_xor y f * k % 2 ^ 32 + a) % 2 ^ 32 / d ≡ bit_xor y f
only_xor y f k a d fits fits_f once none one =
    rw (once, none, one, div-one) (omega (arith, xor_lt 32 y f fits fits_f))

-- ---- results

pub xor_more : (y f k a d v : ℕ) → y < 2 ^ 32 → f < 2 ^ 32 → v < 2 ^ 32 → k ≡ 1 → a ≡ 0 → d ≡ 1
    → bit_xor ((bit_xor y f * k % 2 ^ 32 + a) % 2 ^ 32 / d) v
    ≡ (bit_xor y (bit_xor f v) * k % 2 ^ 32 + a) % 2 ^ 32 / d
xor_more y f k a d v fits fits_f fits_v once none one =
    let below = xor_lt 32 f v fits_f fits_v in
    rw (only_xor y f k a d fits fits_f once none one, only_xor y (bit_xor f v) k a d fits below once none one)
    (xor_assoc y f v)

pub xor_ones : (n v : ℕ) → n < 2 ^ 32 → v ≡ 2 ^ 32 - 1 → bit_xor n v ≡ 2 ^ 32 - 1 - n
xor_ones n v fits all = rw all (xor_all n fits)

-- the complement of a sum with a product, where two products come to the factor's with all ones
negated : (p q k a : ℕ) → p + q ≡ (2 ^ 32 - 1) * k → k < 2 ^ 32 → a < 2 ^ 32 → 2 ^ 32 - 1 - (p % 2 ^ 32 + a) % 2 ^ 32
    ≡ (q % 2 ^ 32 + ((k + (2 ^ 32 - a)) % 2 ^ 32 + (2 ^ 32 - 1)) % 2 ^ 32) % 2 ^ 32
negated p q k a both fits fits_a = omega arith

pub complement_sum : (y f k a d : ℕ) → y < 2 ^ 32 → f < 2 ^ 32 → k < 2 ^ 32 → a < 2 ^ 32 → d ≡ 1
    → 2 ^ 32 - 1 - (bit_xor y f * k % 2 ^ 32 + a) % 2 ^ 32 / d
    ≡ (bit_xor y (2 ^ 32 - 1 - f) * k % 2 ^ 32 + ((k + (2 ^ 32 - a)) % 2 ^ 32 + (2 ^ 32 - 1)) % 2 ^ 32) % 2 ^ 32 / d
complement_sum y f k a d fits fits_f fits_k fits_a one =
    let x = bit_xor y f in
    let below = xor_lt 32 y f fits fits_f in
    let both : x + (2 ^ 32 - 1 - x) ≡ 2 ^ 32 - 1 = omega (arith, below) in
    rw (one, div-one, div-one, xor_complement y f fits fits_f)
    (negated (x * k) ((2 ^ 32 - 1 - x) * k) k a (sym (add-mul x (2 ^ 32 - 1 - x) k) ∙ ap (λ n. n * k) both) fits_k fits_a)

pub and_xor : (y f k a d v : ℕ) → y < 2 ^ 32 → f < 2 ^ 32 → k ≡ 1 → a ≡ 0 → d ≡ 1
    → bit_and ((bit_xor y f * k % 2 ^ 32 + a) % 2 ^ 32 / d) v
    ≡ (bit_xor (bit_and y v) (bit_and f v) * k % 2 ^ 32 + a) % 2 ^ 32 / d
and_xor y f k a d v fits fits_f once none one =
    grind (arith, common_steps, bit_and, and_le_l, only_xor, xor_and)

pub scaled_sum : (x k a d v : ℕ) → d ≡ 1 → (x * k % 2 ^ 32 + a) % 2 ^ 32 / d * v % 2 ^ 32
    ≡ (x * (k * v % 2 ^ 32) % 2 ^ 32 + a * v % 2 ^ 32) % 2 ^ 32 / d
scaled_sum x k a d v one =
    let product : x * k % 2 ^ 32 * v % 2 ^ 32 ≡ x * (k * v % 2 ^ 32) % 2 ^ 32 =
    mul-mod_first (x * k) v (2 ^ 32) ∙ ap (λ n. n % 2 ^ 32) (mul_assoc x k v) ∙ sym (mul-mod_second x (k * v) (2 ^ 32)) in
    rw (one, div-one, div-one, mul-mod_first, add-mul, add-mod, product) refl

-- a factor and its negative, of a number and its complement z, where r is the complement's product with the factor
both_signs : (p q r k a z : ℕ) → p + r ≡ (2 ^ 32 - 1) * k → q + r ≡ 2 ^ 32 * z → k < 2 ^ 32 → a < 2 ^ 32
    → (p % 2 ^ 32 + a) % 2 ^ 32 ≡ (q % 2 ^ 32 + (a + (2 ^ 32 - k)) % 2 ^ 32) % 2 ^ 32
both_signs p q r k a z sum negative fits fits_a = omega arith

pub turned_sum : (y f k a d : ℕ) → y < 2 ^ 32 → f < 2 ^ 32 → k < 2 ^ 32 → a < 2 ^ 32
    → (bit_xor y f * k % 2 ^ 32 + a) % 2 ^ 32 / d
    ≡ (bit_xor y (2 ^ 32 - 1 - f) * ((0 + (2 ^ 32 - k)) % 2 ^ 32) % 2 ^ 32 + (a + (2 ^ 32 - k)) % 2 ^ 32) % 2 ^ 32 / d
turned_sum y f k a d fits fits_f fits_k fits_a =
    let x = bit_xor y f in
    let z = 2 ^ 32 - 1 - x in
    let complement : x + z ≡ 2 ^ 32 - 1 = omega (arith, xor_lt 32 y f fits fits_f) in
    let sum : x * k + z * k ≡ (2 ^ 32 - 1) * k = sym (add-mul x z k) ∙ ap (λ n. n * k) complement in
    let h = 0 + (2 ^ 32 - k) in
    let whole : h + k ≡ 2 ^ 32 = omega (arith, fits_k) in
    let negative : h * z + k * z ≡ 2 ^ 32 * z = sym (add-mul h k z) ∙ ap (λ n. n * z) whole in
    let reduced : z * (h % 2 ^ 32) % 2 ^ 32 ≡ h * z % 2 ^ 32 =
    mul-mod_second z h (2 ^ 32) ∙ ap (λ n. n % 2 ^ 32) (mul_comm z h) in
    rw (xor_complement y f fits fits_f, reduced)
    (ap (λ n. n / d)
    (both_signs (x * k) (h * z) (k * z) k a z (ap (λ n. x * k + n) (mul_comm k z) ∙ sum) negative fits_k fits_a))

-- an XOR with a mask adds what the number can't have, where b is what it can have
xor_parts : (y b f : ℕ) → y < 2 ^ 32 → b < 2 ^ 32 → f < 2 ^ 32 → bit_and y b ≡ y
    → bit_xor y f ≡ bit_xor y (bit_and f b) + bit_and f (2 ^ 32 - 1 - b)
xor_parts y b f fits fits_b fits_f among =
    let p = bit_xor y (bit_and f b) in
    let q = bit_and f (2 ^ 32 - 1 - b) in
    let fits_p : p < 2 ^ 32 = xor_lt 32 y (bit_and f b) fits (omega (arith, and_le_l f b)) in
    let fits_q : q < 2 ^ 32 = omega (arith, and_le_l f (2 ^ 32 - 1 - b)) in
    let joined : bit_xor y f ≡ bit_xor p q =
    same_from_bits_below 32 _ _ (xor_lt 32 y f fits fits_f) (xor_lt 32 p q fits_p fits_q)
    (λ i below. grind (arith, each_bit, at_bit i among, bit_at_not w32 b i fits_b below)) in
    let apart : bit_and p q ≡ 0 =
    same_from_bits_below 32 _ _ (omega (arith, and_le_l p q)) (omega arith)
    (λ i below. grind (arith, each_bit, at_bit i among, bit_at_not w32 b i fits_b below)) in
    joined ∙ xor_disjoint p q apart

-- a multiple of 2^l times a factor, of which the bits don't matter that a shift by l loses
lost_bits : (p z k l : ℕ) → l < 32 → p ≡ z * 2 ^ l → p * k % 2 ^ 32 ≡ p * (k * 2 ^ l % 2 ^ 32 / 2 ^ l) % 2 ^ 32
lost_bits p z k l within is =
    let s = k * 2 ^ l % 2 ^ 32 in
    let whole : 32 - l + l ≡ 32 = omega (arith, within) in
    let none : s % 2 ^ l ≡ 0 =
    ap (λ n. k * 2 ^ l % 2 ^ n % 2 ^ l) (sym whole) ∙ mod-mod-pow (k * 2 ^ l) (32 - l) l ∙ mul-mod_left k (2 ^ l) in
    let back : s / 2 ^ l * 2 ^ l ≡ s = omega (arith, div-add-mod' s (2 ^ l), none) in
    let swapped : (n : ℕ) → p * n ≡ z * (n * 2 ^ l) =
    λ n. ap (λ m. m * n) is ∙ mul_assoc z (2 ^ l) n ∙ ap (λ m. z * m) (mul_comm (2 ^ l) n) in
    ap (λ n. n % 2 ^ 32) (swapped k) ∙ sym (mul-mod_second z (k * 2 ^ l) (2 ^ 32))
    ∙ ap (λ n. z * n % 2 ^ 32) (sym back) ∙ ap (λ n. n % 2 ^ 32) (sym (swapped (s / 2 ^ l)))

-- a number among the bits of a multiple of 2^l is one
among_multiple : (p b z l : ℕ) → bit_and p b ≡ p → b ≡ z * 2 ^ l → p ≡ p / 2 ^ l * 2 ^ l
among_multiple p b z l among is =
    let none : bit_and b (2 ^ l - 1) ≡ 0 = and_mask b l ∙ ap (λ n. n % 2 ^ l) is ∙ mul-mod_left z (2 ^ l) in
    let low : p % 2 ^ l ≡ 0 =
    sym (and_mask p l) ∙ same_from_bits _ _ (λ i. grind (arith, each_bit, at_bit i among, at_bit i none)) in
    omega (arith, div-add-mod' p (2 ^ l), low)

pub reduced_sum : (y b z f k a l d : ℕ) → y < 2 ^ 32 → b < 2 ^ 32 → f < 2 ^ 32 → l < 32 → bit_and y b ≡ y → b ≡ z * 2 ^ l
    → (bit_xor y f * k % 2 ^ 32 + a) % 2 ^ 32 / d
    ≡ (bit_xor y (bit_and f b) * (k * 2 ^ l % 2 ^ 32 / 2 ^ l) % 2 ^ 32
    + (a + bit_and f (2 ^ 32 - 1 - b) * k % 2 ^ 32) % 2 ^ 32) % 2 ^ 32 / d
reduced_sum y b z f k a l d fits fits_b fits_f within among is =
    let p = bit_xor y (bit_and f b) in
    let q = bit_and f (2 ^ 32 - 1 - b) in
    let of_p : bit_and p b ≡ p = same_from_bits _ _ (λ i. grind (arith, each_bit, at_bit i among)) in
    let product = lost_bits p (p / 2 ^ l) k l within (among_multiple p b z l of_p is) in
    let parts : bit_xor y f * k ≡ p * k + q * k =
    ap (λ n. n * k) (xor_parts y b f fits fits_b fits_f among) ∙ add-mul p q k in
    ap (λ n. n / d) (rw (parts, ← product) (omega arith))

-- ---- ranges

pub same_within : (low high n first last m : ℕ) → ((low ≤ n) × (n ≤ high) → (first ≤ m) × (m ≤ last))
    → ((first ≤ m) × (m ≤ last) → (low ≤ n) × (n ≤ high)) → is_within low high n ≡ is_within first last m
same_within low high n first last m to from =
    grind (arith, cases_lt n low, cases_lt high n, cases_lt m first, cases_lt last m)

-- a number lies in a range where another doesn't lie in one
pub beyond_within : (low high n first last m : ℕ) → ((low ≤ n) × (n ≤ high) → (first ≤ m) × (m ≤ last) → ⊥)
    → (m < first → (low ≤ n) × (n ≤ high)) → (last < m → (low ≤ n) × (n ≤ high))
    → is_within low high n ≡ not (is_within first last m)
beyond_within low high n first last m to below above =
    grind (arith, cases_lt n low, cases_lt high n, cases_lt m first, cases_lt last m)

pub one_value : (n v : ℕ) → eqb n v ≡ is_within v v n
one_value n v = grind (arith, cases_eq n v, eq-eqb, ne_eqb)

pub from_least : (n v : ℕ) → n < 2 ^ 32 → not (nat_lt n v) ≡ is_within v (2 ^ 32 - 1) n
from_least n v fits = grind (arith, cases_lt n v)

pub past_least : (n v : ℕ) → n < 2 ^ 32 → nat_lt v n ≡ is_within (v + 1) (2 ^ 32 - 1) n
past_least n v fits = grind (arith, cases_lt v n)

-- the same for a range that ends at the greatest number, or begins at 0
pub past_first : (n v : ℕ) → n < 2 ^ 32 → 0 < v → nat_lt (v - 1) n ≡ is_within v (2 ^ 32 - 1) n
past_first n v fits some = grind (arith, cases_lt n v)

pub from_first : (n v : ℕ) → not (nat_lt v n) ≡ is_within 0 v n
from_first n v = grind (arith, cases_lt v n)

-- a number has a bit of a mask of all bits from one on where it is at least that bit
pub from_lowest_bit : (n v : ℕ) → IsHighMask v → n < 2 ^ 32
    → not (eqb (bit_and n v) 0) ≡ is_within (2 ^ 32 - 1 - v + 1) (2 ^ 32 - 1) n
from_lowest_bit n v high fits =
    let k = high.0 in
    let lowest : 2 ^ 32 - 1 - v + 1 ≡ 2 ^ k = omega (arith, beyond_mask v k high.1 high.2, pow_pos k) in
    rw (of_multiple n v k high.1 high.2 fits, lowest)
    (elim (cases_lt n (2 ^ k)) [
      | inl below ↦ grind (arith, below, div-eq_of_lt below)
      | inr above ↦
          let some : 2 ^ k ≤ n / 2 ^ k * 2 ^ k = omega (arith, mul-le-mul_left (2 ^ k) ((le-div_iff_mul-le {k = 2 ^ k} {x = 1} {y = n} (pow_pos k)).1 (omega arith))) in
          grind (arith, above, some, pow_pos k, ne_eqb)
    ])

pub none_past : (n v : ℕ) → n < 2 ^ 32 → v ≡ 2 ^ 32 - 1 → nat_lt v n ≡ false
none_past n v fits most = grind arith

-- a quotient's range is one of the dividend
pub quotient_within : (n d low high : ℕ) → 0 < d
    → is_within low high (n / d) ≡ is_within (low * d) (high * d + (d - 1)) n
quotient_within n d low high some =
    grind (arith, common_steps, le-div_iff_mul-le, div-lt_iff_lt-mul, one_more, same_within)

-- the sum's range is one of the number that is added to,
pub sum_within : (y a low high : ℕ) → y < 2 ^ 32 → a < 2 ^ 32 → low ≤ high → high < 2 ^ 32
    → (low + (2 ^ 32 - a)) % 2 ^ 32 ≤ (high + (2 ^ 32 - a)) % 2 ^ 32
    → is_within low high ((y + a) % 2 ^ 32)
    ≡ is_within ((low + (2 ^ 32 - a)) % 2 ^ 32) ((high + (2 ^ 32 - a)) % 2 ^ 32) y
sum_within y a low high fits fits_a some fits_high order =
    same_within low high ((y + a) % 2 ^ 32) ((low + (2 ^ 32 - a)) % 2 ^ 32) ((high + (2 ^ 32 - a)) % 2 ^ 32) y
    (λ lies. (omega (arith, lies.0, lies.1), omega (arith, lies.0, lies.1)))
    (λ lies. (omega (arith, lies.0, lies.1), omega (arith, lies.0, lies.1)))

-- or all but one, where the ends of it wrap around
pub sum_beyond : (y a low high : ℕ) → y < 2 ^ 32 → a < 2 ^ 32 → low ≤ high → high < 2 ^ 32
    → (high + (2 ^ 32 - a)) % 2 ^ 32 < (low + (2 ^ 32 - a)) % 2 ^ 32
    → is_within low high ((y + a) % 2 ^ 32)
    ≡ not (is_within ((high + (2 ^ 32 - a)) % 2 ^ 32 + 1) ((low + (2 ^ 32 - a)) % 2 ^ 32 - 1) y)
sum_beyond y a low high fits fits_a some fits_high order =
    let first = (low + (2 ^ 32 - a)) % 2 ^ 32 in
    let last = (high + (2 ^ 32 - a)) % 2 ^ 32 in
    grind (arith, common_steps, beyond_within)

-- ---- low masks

whole_shift : (k c : ℕ) → k + c ≡ 32 → 2 ^ k * 2 ^ c ≡ 2 ^ 32
whole_shift k c sum = sym (pow-add 2 k c) ∙ ap (λ n. 2 ^ n) sum

-- a shift there and back leaves the low bits
shifted_back : (n k c : ℕ) → k + c ≡ 32 → n * 2 ^ c % 2 ^ 32 / 2 ^ c ≡ n % 2 ^ k
shifted_back n k c sum =
    let q = n / 2 ^ k in
    let r = n % 2 ^ k in
    let moved : q * 2 ^ k * 2 ^ c ≡ q * 2 ^ 32 = mul_assoc q (2 ^ k) (2 ^ c) ∙ ap (λ m. q * m) (whole_shift k c sum) in
    let parts : n * 2 ^ c ≡ q * 2 ^ 32 + r * 2 ^ c =
    ap (λ m. m * 2 ^ c) (sym (div-add-mod' n (2 ^ k))) ∙ add-mul (q * 2 ^ k) r (2 ^ c) ∙ ap (λ m. m + r * 2 ^ c) moved in
    let few : r * 2 ^ c < 2 ^ k * 2 ^ c = mul-lt-mul_of_pos_right (mod-lt n (pow_pos k)) (pow_pos c) in
    let below : r * 2 ^ c < 2 ^ 32 = omega (arith, few, whole_shift k c sum) in
    ap (λ m. m % 2 ^ 32 / 2 ^ c) parts ∙ ap (λ m. m / 2 ^ c) (mod-mul-add q (2 ^ 32) (r * 2 ^ c) below) ∙ shl-shr r c

pub low_masked : (n v c : ℕ) → c < 32 → v ≡ (2 ^ 32 - 1) / 2 ^ c
    → bit_and n v ≡ n * (1 * 2 ^ c % 2 ^ 32) % 2 ^ 32 / (1 * 2 ^ c % 2 ^ 32)
low_masked n v c within ones =
    let sum : 32 - c + c ≡ 32 = omega (arith, within) in
    let low_ones = ones_shr 32 c (omega (arith, within)) in
    rw (one_shl c 32 within, ones, low_ones, and_mask n (32 - c)) (sym (shifted_back n (32 - c) c sum))

pub some_leading : (v : ℕ) → v ≢ 0 → v < 2 ^ 32 → count_leading_zeros 32 v < 32
some_leading v some fits =
    let top = leading_top 32 v (omega (arith, some)) fits in
    omega (arith, top.1)

-- ---- products

pub by_one : (x f : ℕ) → x < 2 ^ 32 → f ≡ 1 → x * f % 2 ^ 32 ≡ x
by_one x f fits one = rw one (omega arith)

-- a factor is a shift, and then an odd one
by_parts : (x f o c : ℕ) → f ≡ o * 2 ^ c → x * f % 2 ^ 32 ≡ x * 2 ^ c % 2 ^ 32 * o % 2 ^ 32
by_parts x f o c parts =
    let same : x * f ≡ x * 2 ^ c * o = ap (λ n. x * n) (parts ∙ mul_comm o (2 ^ c)) ∙ sym (mul_assoc x (2 ^ c) o) in
    ap (λ n. n % 2 ^ 32) same ∙ sym (mul-mod_first (x * 2 ^ c) o (2 ^ 32))

-- what is multiplied may be shifted first, and then multiplied by an odd number
pub by_odd : (x f o c s a d : ℕ) → f ≡ o * 2 ^ c → x * 2 ^ c % 2 ^ 32 ≡ s
    → (x * f % 2 ^ 32 + a) % 2 ^ 32 / d ≡ (s * o % 2 ^ 32 + a) % 2 ^ 32 / d
by_odd x f o c s a d parts shifted =
    ap (λ n. (n + a) % 2 ^ 32 / d) (by_parts x f o c parts ∙ ap (λ n. n * o % 2 ^ 32) shifted)

-- a number times another and its inverse
there_and_back : (n o i : ℕ) → n < 2 ^ 32 → o * i % 2 ^ 32 ≡ 1 → n * o % 2 ^ 32 * i % 2 ^ 32 ≡ n
there_and_back n o i fits inverse =
    let once : n * (o * i % 2 ^ 32) % 2 ^ 32 ≡ n = rw inverse (omega arith) in
    mul-mod_first (n * o) i (2 ^ 32) ∙ ap (λ m. m % 2 ^ 32) (mul_assoc n o i) ∙ sym (mul-mod_second n (o * i) (2 ^ 32)) ∙ once

-- a product is one value where the factor's inverse times the value is what is multiplied
pub by_inverse : (x f i low high : ℕ) → f * i % 2 ^ 32 ≡ 1 → low ≡ high → low < 2 ^ 32 → x < 2 ^ 32
    → is_within low high (x * f % 2 ^ 32) ≡ is_within (low * i % 2 ^ 32) (low * i % 2 ^ 32) x
by_inverse x f i low high inverse one fits fits_x =
    grind (arith, common_steps, there_and_back, mul_comm, same_within)

-- the sum of two terms, where what one multiplies is shifted to the left for the other
pub plus_product : (x s f g a b c d e : ℕ) → x * 2 ^ c % 2 ^ 32 ≡ s → d ≡ 1 → e ≡ 1
    → ((x * f % 2 ^ 32 + a) % 2 ^ 32 / d + (s * g % 2 ^ 32 + b) % 2 ^ 32 / e) % 2 ^ 32
    ≡ (x * ((f + g * 2 ^ c % 2 ^ 32) % 2 ^ 32) % 2 ^ 32 + (a + b) % 2 ^ 32) % 2 ^ 32 / d
plus_product x s f g a b c d e shifted one one_too =
    let h = g * 2 ^ c % 2 ^ 32 in
    let second : x * h % 2 ^ 32 ≡ s * g % 2 ^ 32 =
    mul-mod_second x (g * 2 ^ c) (2 ^ 32) ∙ by_parts x (g * 2 ^ c) g c refl ∙ ap (λ n. n * g % 2 ^ 32) shifted in
    let both : x * ((f + h) % 2 ^ 32) % 2 ^ 32 ≡ (x * f + x * h) % 2 ^ 32 =
    mul-mod_second x (f + h) (2 ^ 32) ∙ ap (λ n. n % 2 ^ 32) (mul-add x f h) in
    rw (one, one_too, div-one, div-one, div-one, both, ← second) (omega arith)

pub xor_shifted : (y f k s : ℕ) → y * 2 ^ k % 2 ^ 32 ≡ s → bit_xor y f * 2 ^ k % 2 ^ 32 ≡ bit_xor s (f * 2 ^ k % 2 ^ 32)
xor_shifted y f k s shifted =
    let whole : bit_xor (y * 2 ^ k) (f * 2 ^ k) ≡ bit_xor y f * 2 ^ k =
    grind (arith, xor_block k y f 0 0 (pow_pos k) (pow_pos k), xor_zero_r 0) in
    rw (← shifted, ← xor_mod (y * 2 ^ k) (f * 2 ^ k) 32, whole) refl

-- the bits below the lowest one of a number are 0
pub shifted_out : (n : ℕ) → 0 < n → n < 2 ^ 32 → n ≡ n / 2 ^ trailing_zeros w32 n * 2 ^ trailing_zeros w32 n
shifted_out n some fits =
    let c = trailing_zeros w32 n in
    let zeros = (bit_at-trailing_zeros w32 n some fits).2 in
    let none : n % 2 ^ c ≡ 0 = sym (and_mask n c) ∙ same_from_bits (bit_and n (2 ^ c - 1)) 0
    (λ i. elim (cases_lt i c) [
      | inl below ↦ grind (arith, each_bit, zeros i below)
      | inr above ↦ grind (arith, each_bit, bit_at_ones_above c i above)
    ]) in
    omega (arith, div-add-mod' n (2 ^ c), none)

pub place_fits : (n : ℕ) → 0 < n → n < 2 ^ 32 → trailing_zeros w32 n < 32
place_fits n some fits = (bit_at-trailing_zeros w32 n some fits).0

-- ---- ranges under an XOR

pub xor_equal : (s f low high : ℕ) → low ≡ high → is_within low high (bit_xor s f) ≡ eqb s (bit_xor low f)
xor_equal s f low high one =
    rw (← one)
    (sym (one_value (bit_xor s f) low) ∙ grind (arith, cases_eq (bit_xor s f) low, cases_eq s (bit_xor low f), xor_moved s f low, eq-eqb, ne_eqb))

-- an XOR sets bits that a number can't have
pub set_within : (s b f low high : ℕ) → bit_and s b ≡ s → bit_and b f ≡ 0 → f ≤ high
    → is_within low high (bit_xor s f) ≡ is_within (low - f) (high - f) s
set_within s b f low high among apart most =
    grind (arith, common_steps, and_assoc, and_zero_r, xor_disjoint, same_within)

-- or turns all bits round that it may have
pub turned_within : (s b f low high : ℕ) → bit_and s b ≡ s → bit_and b f ≡ b → low ≤ f
    → is_within low high (bit_xor s f) ≡ is_within (f - high) (f - low) s
turned_within s b f low high among all least =
    let each : bit_and s f ≡ s =
    ap (λ n. bit_and n f) (sym among) ∙ and_assoc f s b ∙ ap (bit_and s) all ∙ among in
    let below : s ≤ f = omega (arith, each, and_le_r s f) in
    let rest : bit_xor s f ≡ f - s = omega (arith, each, xor_add_and s f, below) in
    rw rest
    (same_within low high (f - s) (f - high) (f - low) s
    (λ lies. (omega (arith, lies.0, lies.1, below), omega (arith, lies.0, lies.1, below)))
    (λ lies. (omega (arith, lies.0, lies.1, below, least), omega (arith, lies.0, lies.1, below, least))))

-- ---- multiples

pub none_between : (n low high : ℕ) → (low ≤ n → n ≤ high → ⊥) → is_within low high n ≡ false
none_between n low high none = grind (arith, common_steps, none, cases_lt)

pub only_between : (n low high v : ℕ) → low ≤ v → v ≤ high → (low ≤ n → n ≤ high → n ≡ v) → is_within low high n ≡ eqb n v
only_between n low high v least most only =
    same_within low high n v v n
    (λ lies. let same = only lies.0 lies.1 in (omega (arith, same), omega (arith, same)))
    (λ lies. (omega (arith, lies.0, lies.1, least), omega (arith, lies.0, lies.1, most))) ∙ sym (one_value n v)

pub past_below : (n low high : ℕ) → low ≢ 0 → n ≤ high → nat_lt (low - 1) n ≡ is_within low high n
past_below n low high some most = grind (arith, cases_lt n low)

-- ---- what fits

pub quotient_fits : (n d : ℕ) → n % 2 ^ 32 / d < 2 ^ 32
quotient_fits n d = omega (arith, div-le_self (n % 2 ^ 32) d)

pub add_more : (y a d v : ℕ) → d ≡ 1 → ((y + a) % 2 ^ 32 / d + v) % 2 ^ 32 ≡ (y + (a + v) % 2 ^ 32) % 2 ^ 32 / d
add_more y a d v one = rw (one, div-one, div-one) (omega arith)

pub sum_of_negation : (n v : ℕ) → v < 2 ^ 32 → (n + (0 + (2 ^ 32 - v)) % 2 ^ 32) % 2 ^ 32 ≡ (n + 2 ^ 32 - v) % 2 ^ 32
sum_of_negation n v fits = omega arith

pub sum_of_reverse : (n v : ℕ) → v < 2 ^ 32 → (n + (0 + 2 ^ 32 - v) % 2 ^ 32) % 2 ^ 32 ≡ (n + 2 ^ 32 - v) % 2 ^ 32
sum_of_reverse n v fits = omega arith

pub sum_of_complement : (n v : ℕ) → n < 2 ^ 32 → v < 2 ^ 32
    → (2 ^ 32 - 1 - n + (v + 1) % 2 ^ 32) % 2 ^ 32 ≡ (v + 2 ^ 32 - n) % 2 ^ 32
sum_of_complement n v fits fits_v = omega arith

pub some_product : (d v : ℕ) → 0 < d → v ≢ 0 → 0 < d * v
some_product d v some some_v = mul-pos some (omega (arith, some_v))

-- ---- ends of ranges

pub all_within : (n : ℕ) → n < 2 ^ 32 → is_within 0 (2 ^ 32 - 1) n ≡ true
all_within n fits = grind arith

pub none_within : (n d low high : ℕ) → 0 < d → n < 2 ^ 32 → (2 ^ 32 - 1) / d < low → is_within low high (n / d) ≡ false
none_within n d low high some fits far =
    let most : n / d ≤ (2 ^ 32 - 1) / d = quotient_grows n d (2 ^ 32 - 1) d (omega arith) (omega arith) some in
    grind (arith, cases_lt (n / d) low)

pub to_most : (n d low high : ℕ) → 0 < d → n < 2 ^ 32 → (2 ^ 32 - 1) / d ≤ high
    → is_within low high (n / d) ≡ is_within (low * d) (2 ^ 32 - 1) n
to_most n d low high some fits far =
    grind (arith, common_steps, quotient_grows, le-div_iff_mul-le, same_within)

pub least_fits : (d low : ℕ) → 0 < d → low ≤ (2 ^ 32 - 1) / d → low * d < 2 ^ 32
least_fits d low some within = omega (arith, (le-div_iff_mul-le {k = d} {x = low} {y = 2 ^ 32 - 1} some).0 within)

pub last_fits : (d high : ℕ) → 0 < d → high < (2 ^ 32 - 1) / d → high * d + (d - 1) < 2 ^ 32
last_fits d high some within =
    omega (arith, (le-div_iff_mul-le {k = d} {x = high + 1} {y = 2 ^ 32 - 1} some).0 (omega arith), one_more high d)

pub last_past : (d low high : ℕ) → low ≤ high → low * d ≤ high * d + (d - 1)
last_past d low high some = omega (arith, mul-le-mul_left d some)

pub gap : (a low high : ℕ) → a < 2 ^ 32 → low ≤ high → high < 2 ^ 32 → (low ≡ 0 → high ≡ 2 ^ 32 - 1 → ⊥)
    → (high + (2 ^ 32 - a)) % 2 ^ 32 < (low + (2 ^ 32 - a)) % 2 ^ 32
    → (high + (2 ^ 32 - a)) % 2 ^ 32 + 1 ≤ (low + (2 ^ 32 - a)) % 2 ^ 32 - 1
gap a low high fits some fits_high part order =
    grind (arith, common_steps, cases_eq, part)

-- ---- what functions cite

pub ruleset of_laws = (of_bit_slice, number_fits)

pub ruleset complement_laws = (complement_sum, number_fits)

pub ruleset and_laws = (and_xor, number_fits)

pub ruleset masked_laws = (low_masked, some_leading)

pub ruleset or_laws = (or_by_xor, quotient_fits)

pub ruleset reverse_sub_laws = (sum_of_complement, quotient_fits)

pub ruleset mul_laws = (scaled_sum)

-- a range beyond all that an XOR leaves, which turns all bits round that a number may have
pub beyond_turned : (s b f low high : ℕ) → bit_and s b ≡ s → bit_and b f ≡ b → f < low
    → is_within low high (bit_xor s f) ≡ false
beyond_turned s b f low high among all far =
    let each : bit_and s f ≡ s =
    ap (λ n. bit_and n f) (sym among) ∙ and_assoc f s b ∙ ap (bit_and s) all ∙ among in
    let rest : bit_xor s f ≤ f = omega (arith, each, xor_add_and s f, and_le_r s f) in
    none_between (bit_xor s f) low high (λ least most. omega (arith, least, rest, far))

pub ruleset turned_laws = (turned_sum, number_fits)

pub ruleset combined_laws = (sum_of_reverse, quotient_fits)

pub ruleset div_laws = (div-div-eq-div-mul, some_product)

pub ruleset commuted_laws = (add_comm, and_comm, mul_comm, or_comm, xor_comm)

pub ruleset sum_laws = (sum_within, sum_beyond, gap, all_within, xor_lt, number_fits, mod-lt)

pub ruleset product_laws = (by_one, by_inverse, xor_lt, number_fits, mod-lt)

pub ruleset shifted_laws = (xor_shifted, number_fits)

pub ruleset odd_laws = (shifted_out, place_fits)

pub ruleset slice_laws = (from_first, from_least, past_first, whole_word, word_below, div-one, number_fits)
