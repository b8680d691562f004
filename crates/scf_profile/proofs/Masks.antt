-- Numbers that have a value under a mask: the least, the greatest, and those of two masks.
use Rattle.scf_profile.proofs.Common.{◌≡◌, ℕ, ◌-◌, ◌<◌, ◌≤◌, ◌^◌, false, eqb, ne_eqb, and_mask, ArgumentBits, Bits32, Bits64, greatest_argument, bit_and, sym, ap, ◌∙◌, arith, bit_or, bit_at, and_self, or_add_and, eq-eqb, eqb-true, and_assoc, and_comm, and_le_l, and_or_apart, and-not, or_comm, or_lt, bit_at_and, bit_at_or, same_from_bits, Masked, HaveCommonNumber, IsGreatestOf, IsLeastOf, nat_tests, common_steps}

pub masked_twice : (n m : ℕ) → bit_and (bit_and n m) m ≡ bit_and n m
masked_twice n m = and_assoc m n m ∙ ap (bit_and n) (and_self m)

-- no number has a value that is greater under a mask
pub none_masked : (bits : ArgumentBits) (mask value n : ℕ) → n ≤ greatest_argument bits → greatest_argument bits < value
    → eqb (bit_and n mask) value ≡ false
none_masked bits mask value n fits beyond = ne_eqb _ _ (λ e. omega (arith, and_le_l n mask))

-- the value itself is the least
pub least_masked : (bits : ArgumentBits) (mask value : ℕ) → value ≤ greatest_argument bits → bit_and value mask ≡ value
    → IsLeastOf bits (Masked mask value) value
least_masked bits mask value fits within = grind (arith, common_steps, nat_tests, eq-eqb, eqb-true, and_le_l)

-- a number up to the greatest has no bits but its own
within_greatest : (bits : ArgumentBits) (k : ℕ) → k ≤ greatest_argument bits → bit_and k (greatest_argument bits) ≡ k
within_greatest bits k h = grind (arith, common_steps, nat_tests, and_mask)

greatest_fits : (bits : ArgumentBits) → greatest_argument bits < 2 ^ 64
greatest_fits bits = grind (arith, common_steps, nat_tests)

greatest_or : (bits : ArgumentBits) (v w : ℕ) → v ≤ greatest_argument bits → w ≤ greatest_argument bits
    → bit_or v w ≤ greatest_argument bits
greatest_or Bits32 v w h k = let below = or_lt 32 v w (omega arith) (omega arith) in omega arith
greatest_or Bits64 v w h k = let below = or_lt 64 v w (omega arith) (omega arith) in omega arith

and_none : (n : ℕ) → bit_and n 0 ≡ 0
and_none n = omega (arith, and_comm n 0, and_le_l 0 n)

-- the value with each bit outside the mask is the greatest
module _ (bits : ArgumentBits) (mask value : ℕ) (mask_fits : mask < 2 ^ 64) where
  abbrev outside : ℕ
  outside = bit_and (greatest_argument bits) (2 ^ 64 - 1 - mask)

  -- no bit is in the mask and outside
  apart : bit_and outside mask ≡ 0
  apart = grind (arith, common_steps, nat_tests, and-not, and_comm, and_assoc, and_none)

  -- what a number up to the greatest has outside the mask
  left_outside : (k : ℕ) → k ≤ greatest_argument bits → bit_and k (2 ^ 64 - 1 - mask) ≤ outside
  left_outside k fits =
      let same : bit_and k (2 ^ 64 - 1 - mask) ≡ bit_and k outside =
      ap (λ (x : ℕ). bit_and x (2 ^ 64 - 1 - mask)) (sym (within_greatest bits k fits))
      ∙ and_assoc (2 ^ 64 - 1 - mask) k (greatest_argument bits) in
      omega (arith, same, and_comm k outside, and_le_l outside k)

  pub greatest_masked : value ≤ greatest_argument bits → bit_and value mask ≡ value
      → IsGreatestOf bits (Masked mask value) (bit_or value outside)
  greatest_masked fits within =
      let no_common : bit_and value outside ≡ 0 =
      ap (λ (x : ℕ). bit_and x outside) (sym within) ∙ and_assoc outside value mask
      ∙ ap (bit_and value) (and_comm mask outside ∙ apart) ∙ and_none value in
      record {
        fits = greatest_or bits value outside fits (and_le_l (greatest_argument bits) (2 ^ 64 - 1 - mask));
        has = eq-eqb _ _ (and_or_apart mask value outside apart ∙ within);
        greatest = λ k k_fits h.
            let e = eqb-true (bit_and k mask) value h in
            let all = greatest_fits bits in
            let masked_out = and-not 64 mask k mask_fits (omega arith) in
            let turned = and_comm k (2 ^ 64 - 1 - mask) in
            omega (arith, e, and_comm k mask, masked_out, turned, left_outside k k_fits, or_add_and value outside, no_common);
      }

-- ---- two masks

-- two values that agree under both masks, joined, have the one value under its mask
joined : (v w m n : ℕ) → bit_and v m ≡ v → bit_and w n ≡ w → bit_and v n ≡ bit_and w m → bit_and (bit_or v w) m ≡ v
joined v w m n hv hw h = same_from_bits _ _ (λ i.
    let first = ap (λ (x : ℕ). bit_at x i) hv in
    let second = ap (λ (x : ℕ). bit_at x i) hw in
    let both = ap (λ (x : ℕ). bit_at x i) h in
    let or = bit_at_or v w i in
    let one = bit_at_and (bit_or v w) m i in
    omega (arith, bit_at_and v m i, bit_at_and w n i, bit_at_and v n i, bit_at_and w m i))

pub two_masks : (bits : ArgumentBits) (m v n w : ℕ) → v ≤ greatest_argument bits → w ≤ greatest_argument bits
    → bit_and v m ≡ v
    → bit_and w n ≡ w → bit_and v n ≡ bit_and w m → HaveCommonNumber bits (Masked m v) (Masked n w)
two_masks bits m v n w lv lw hv hw h = record {
  number = bit_or v w;
  fits = greatest_or bits v w lv lw;
  first = eq-eqb _ _ (joined v w m n hv hw h);
  second = eq-eqb _ _ (ap (λ (x : ℕ). bit_and x n) (or_comm v w) ∙ joined w v n m hw hv (sym h));
}

pub two_masks_agree : (bits : ArgumentBits) (m v n w : ℕ) → HaveCommonNumber bits (Masked m v) (Masked n w)
    → bit_and v n ≡ bit_and w m
two_masks_agree bits m v n w s = grind (arith, common_steps, nat_tests, eqb-true, and_assoc, and_comm)
