-- What the kind of a mask says of it.
use Rattle.scf_insn.proofs.Common.{◌≡◌, ℕ, zero, suc, ◌+◌, ◌*◌, ◌/◌, ◌%◌, ◌-◌, ◌<◌, ◌≤◌, ◌^◌, cond, eqb, Bool, ap, ◌∙◌, arith, inl, inr, ◌⊎◌, refl, sym, subst, count_ones, IsPowerOfTwo, ones_step, ones_cat, pow-suc, cases_eq, cases_lt, eqb-true, eqb-false, zero_from_ones, ones_le_self, pow_pos, pow_below, IsSimpleMask, MaskKind, Empty, OneBit, Full, Mixed, mask_kind}
use Rattle.std.specs.Int.Count.{ones}

-- a number with one bit is a power of two
power_from_one : (d n : ℕ) → n ≤ d → count_ones n ≡ 1 → IsPowerOfTwo n
power_from_one zero n small one = absurd (omega (arith, ones_le_self n))
power_from_one (suc d) n small one =
    let step = ones_step n in
    elim (cases_eq (n % 2) 0) [
      | inl even ↦
          let half = power_from_one d (n / 2) (omega arith) (omega arith) in
          let e = half.1 in
          (suc half.0, omega (arith, pow-suc 2 half.0))
      | inr odd ↦
          let none = zero_from_ones (n / 2) (omega arith) in
          (0, omega arith)
    ]

pub power_from_one_bit : (n : ℕ) → count_ones n ≡ 1 → IsPowerOfTwo n
power_from_one_bit n one = power_from_one n n (omega arith) one

pub one_bit_of_power : (k : ℕ) → count_ones (2 ^ k) ≡ 1
unfolding ones
one_bit_of_power k = let e : 2 ^ k ≡ 1 * 2 ^ k + 0 = omega arith in ap count_ones e
    ∙ ones_cat k 1 0 (omega (arith, pow_pos k))

-- what a kind says of a mask
abbrev pub IsOfKind : MaskKind → ℕ → Type 0
IsOfKind Empty mask = mask ≡ 0
IsOfKind OneBit mask = IsPowerOfTwo mask
IsOfKind Full mask = mask ≡ 2 ^ 32 - 1
IsOfKind Mixed mask = IsSimpleMask mask → ⊥

by_tests : (mask : ℕ) (none all one : Bool) → eqb mask 0 ≡ none → eqb mask (2 ^ 32 - 1) ≡ all
    → eqb (count_ones mask) 1 ≡ one
    → IsOfKind (cond none Empty (cond all Full (cond one OneBit Mixed))) mask
by_tests mask none all one h1 h2 h3 = grind (arith, eqb-false, eqb-true, one_bit_of_power, power_from_one_bit)

pub is_of_kind : (mask : ℕ) → IsOfKind (mask_kind mask) mask
is_of_kind mask = by_tests mask _ _ _ refl refl refl

index_below : (k : ℕ) → 2 ^ k < 2 ^ 32 → k < 32
index_below k lt = elim (cases_lt 32 k) [
  | inl past ↦ absurd (omega (arith, pow_below 32 k past))
  | inr le ↦ elim (cases_eq k 32) [
    | inl e ↦ absurd (omega (arith, ap (λ n. 2 ^ n) e))
    | inr ne ↦ omega arith
  ]
]

kind_said : (kind : MaskKind) (mask : ℕ) → kind ≡ mask_kind mask → IsOfKind kind mask
kind_said kind mask e = subst (λ (k : MaskKind). IsOfKind k mask) (sym e) (is_of_kind mask)

-- a mask with no bit, one or all is simple
pub is_simple : (kind : MaskKind) (mask : ℕ) → mask < 2 ^ 32 → kind ≡ mask_kind mask → (kind ≡ Empty)
    ⊎ (kind ≡ OneBit) ⊎ (kind ≡ Full) → IsSimpleMask mask
is_simple kind mask lt e (inl none) = inl (rw none at (kind_said kind mask e))
is_simple kind mask lt e (inr (inl one)) = let power = rw one at (kind_said kind mask e) in
    inr (inl (power.0, index_below power.0 (omega (arith, power.1)), power.1))
is_simple kind mask lt e (inr (inr all)) = inr (inr (rw all at (kind_said kind mask e)))

-- a mask with several bits isn't
pub is_mixed : (kind : MaskKind) (mask : ℕ) → kind ≡ mask_kind mask → kind ≡ Mixed → IsSimpleMask mask → ⊥
is_mixed kind mask e mixed = rw mixed at (kind_said kind mask e)
