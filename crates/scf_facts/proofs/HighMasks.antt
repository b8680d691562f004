-- Masks of all bits from one on.
use Rattle.std.proofs.lemmas.Grind.{common_steps}
use Rattle.scf_facts.proofs.MaskLaws.{and_twice}
use Rattle.scf_facts.proofs.Common.{◌≡◌, ◌≢◌, false, ne_eqb, ℕ, ◌+◌, ◌-◌, ◌*◌, ◌/◌, ◌<◌, ◌≤◌, ◌^◌, ◌↔◌, true, eqb, sym, ap, ◌∙◌, arith, bit_and, eq-eqb, eqb-true, and_le_r, pow_pos, shr_split, and_high_mask, add-mul, div-lt_iff_lt-mul, le-div_iff_mul-le, mod-lt, pow_mono}

pub one_more : (q d : ℕ) → (q + 1) * d ≡ q * d + d
one_more q d = add-mul q 1 d ∙ (let once : q * d + 1 * d ≡ q * d + d = omega arith in once)

-- the numbers within a range that starts at a multiple have its quotient
pub same_quotient : (x q k : ℕ) → q * 2 ^ k ≤ x → x ≤ q * 2 ^ k + (2 ^ k - 1) → x / 2 ^ k ≡ q
same_quotient x q k least most = grind (arith, common_steps, le-div_iff_mul-le, pow_pos, one_more, div-lt_iff_lt-mul)

pub of_multiple : (x m k : ℕ) → k < 32 → m ≡ 2 ^ 32 - 2 ^ k → x < 2 ^ 32 → bit_and x m ≡ x / 2 ^ k * 2 ^ k
of_multiple x m k within mask h = ap (bit_and x) mask ∙ and_high_mask 32 k (omega arith) x h

pub beyond_mask : (m k : ℕ) → k < 32 → m ≡ 2 ^ 32 - 2 ^ k → 2 ^ 32 - 1 - m ≡ 2 ^ k - 1
beyond_mask m k within mask = grind (arith, common_steps, pow_mono, pow_pos)

-- a number has bits under such a mask where it lies in the range that begins at them
pub high_range : (x v m k : ℕ) → k < 32 → m ≡ 2 ^ 32 - 2 ^ k → x < 2 ^ 32 → bit_and v m ≡ v
    → ((v ≤ x) × (x ≤ v + (2 ^ 32 - 1 - m))) ↔ (eqb (bit_and x m) v ≡ true)
high_range x v m k within mask h multiple =
    let fits : v < 2 ^ 32 = omega (arith, multiple, and_le_r v m, pow_pos k) in
    let of_x : bit_and x m ≡ x / 2 ^ k * 2 ^ k = of_multiple x m k within mask h in
    let of_v : v / 2 ^ k * 2 ^ k ≡ v = sym (of_multiple v m k within mask fits) ∙ multiple in
    let rest : 2 ^ 32 - 1 - m ≡ 2 ^ k - 1 = beyond_mask m k within mask in (
      λ lies.
          let same = same_quotient x (v / 2 ^ k) k (omega (arith, of_v, lies.0)) (omega (arith, of_v, lies.1, rest)) in
          eq-eqb _ _ (of_x ∙ ap (λ n. n * 2 ^ k) same ∙ of_v),
      λ has.
          let part : x / 2 ^ k * 2 ^ k ≡ v = sym of_x ∙ eqb-true _ _ has in
          (omega (arith, part, shr_split x k), omega (arith, part, rest, shr_split x k, mod-lt x (pow_pos k))),
    )

-- no number has a value with a bit beyond the mask
pub never : (x v m : ℕ) → bit_and v m ≢ v → eqb (bit_and x m) v ≡ false
never x v m beyond = ne_eqb _ _ (λ e. beyond (ap (λ n. bit_and n m) (sym e) ∙ and_twice x m ∙ e))

pub ruleset asked = (high_range, never)
