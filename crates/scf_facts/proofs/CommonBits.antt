-- Bits that several numbers have in common.
use Rattle.scf_facts.proofs.Common.{◌≡◌, ◌≢◌, ℕ, ◌-◌, ◌*◌, ◌/◌, ◌%◌, ◌<◌, ◌≤◌, ◌^◌, sym, ap, ◌∙◌, arith, bit_and, bit_or, bit_xor, count_leading_zeros, xor_lt, xor_self, and_high_mask, div-eq_of_lt, leading_length, leading_of_zero, ones_shl, same_from_bits, shr_mono, xor_shr}
use Rattle.scf_facts.proofs.MaskLaws.{and_twice, at_bit, each_bit}

-- numbers that differ in no bit are equal
pub same_from_xor : (a b : ℕ) → bit_xor a b ≡ 0 → a ≡ b
same_from_xor a b e = same_from_bits _ _ (λ i. grind (arith, each_bit, at_bit i e))

-- numbers that differ in low bits alone
same_above : (a b k : ℕ) → bit_xor a b < 2 ^ k → a / 2 ^ k ≡ b / 2 ^ k
same_above a b k lt = same_from_xor _ _ (sym (xor_shr a b k) ∙ div-eq_of_lt lt)

differ_below : (a b k : ℕ) → a < 2 ^ 32 → b < 2 ^ 32 → k ≡ 32 - count_leading_zeros 32 (bit_xor a b) → bit_xor a b < 2 ^ k
differ_below a b k h l e =
    let (m, sum, below, _) = leading_length 32 (bit_xor a b) (xor_lt 32 a b h l) in
    let same : k ≡ m = omega arith in
    rw same below

-- the numbers between two have the leading bits that these have in common
pub leading_bits : (a b k x : ℕ) → a < 2 ^ 32 → b < 2 ^ 32 → k ≡ 32 - count_leading_zeros 32 (bit_xor a b) → k ≢ 32
    → a ≤ x → x ≤ b
    → bit_and x ((2 ^ 32 - 1) * 2 ^ k % 2 ^ 32) ≡ bit_and a ((2 ^ 32 - 1) * 2 ^ k % 2 ^ 32)
leading_bits a b k x h l e less least most =
    let within : k ≤ 32 = omega arith in
    let same = same_above a b k (differ_below a b k h l e) in
    let quotient : x / 2 ^ k ≡ a / 2 ^ k = omega (arith, same, shr_mono k least, shr_mono k most) in
    let fits : x < 2 ^ 32 = omega arith in
    rw (ones_shl 32 k within, and_high_mask 32 k within x fits, and_high_mask 32 k within a h)
    (ap (λ n. n * 2 ^ k) quotient)

-- a number differs from itself in no bit
pub no_difference : (a b k : ℕ) → a ≡ b → k ≡ 32 - count_leading_zeros 32 (bit_xor a b) → k ≡ 0
no_difference a b k same e =
    e ∙ ap (λ n. 32 - count_leading_zeros 32 (bit_xor n b)) same ∙ ap (λ n. 32 - count_leading_zeros 32 n) (xor_self b)
    ∙ ap (λ n. 32 - n) (leading_of_zero 32)

pub whole_mask : (k : ℕ) → k ≡ 0 → (2 ^ 32 - 1) * 2 ^ k % 2 ^ 32 ≡ 2 ^ 32 - 1
whole_mask k none = ap (λ n. (2 ^ 32 - 1) * 2 ^ n % 2 ^ 32) none

-- what has the bits of two has them together
pub union_has : (x k a m v : ℕ) → bit_and x k ≡ a → bit_and x m ≡ v → bit_and x (bit_or k m) ≡ bit_or a v
union_has x k a m v first second =
    same_from_bits _ _ (λ i. grind (arith, each_bit, at_bit i first, at_bit i second))

pub union_within : (k a m v : ℕ) → bit_and a k ≡ a → bit_and v m ≡ v → bit_and (bit_or a v) (bit_or k m) ≡ bit_or a v
union_within k a m v first second =
    same_from_bits _ _ (λ i. grind (arith, each_bit, at_bit i first, at_bit i second))

pub ruleset unions = (union_has, union_within)

pub ruleset between_laws = (leading_bits, and_twice, no_difference, whole_mask)

-- a number with a value under a mask has the value's bits there
pub kept : (x k v : ℕ) → bit_and x k ≡ v → bit_and x k ≡ bit_and v k
kept x k v e = sym (and_twice x k) ∙ ap (λ n. bit_and n k) e

pub ruleset kept_bits = (kept, and_twice)
