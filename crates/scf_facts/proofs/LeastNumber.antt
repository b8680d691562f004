-- Numbers that share a wrong bit.
use Rattle.std.proofs.lemmas.Grind.{common_steps}
use Rattle.scf_facts.proofs.Common.{◌+◌, one_shl, shr_split, ◌≡◌, ◌≢◌, ℕ, suc, ◌-◌, ◌*◌, ◌/◌, ◌%◌, ◌<◌, ◌≤◌, ◌^◌, sym, ap, subst, arith, bit_and, bit_xor, bit_at, count_leading_zeros, leading_top, pow_pos, pow-succ'}
use Rattle.scf_facts.proofs.HighMasks.{one_more, same_quotient}
use Rattle.scf_facts.proofs.MaskLaws.{each_bit}

-- a number from x on and below the next multiple of a power has the wrong bit of x there
pub mismatch : (x y known value index : ℕ) → bit_at (bit_xor (bit_and x known) value) index ≡ 1 → index < 32 → x ≤ y
    → y < (x / (1 * 2 ^ index % 2 ^ 64) + 1) * (1 * 2 ^ index % 2 ^ 64) → bit_and y known ≢ value
mismatch x y known value index wrong within from to e =
    grind (arith, common_steps, one_shl, same_quotient, shr_split, one_more, pow_pos, each_bit)

-- the highest digit of a number that isn't 0
pub highest : (n : ℕ) → 0 < n → n < 2 ^ 32
    → (31 - count_leading_zeros 32 n < 32) × (bit_at n (31 - count_leading_zeros 32 n) ≡ 1)
highest n p fits =
    let top = leading_top 32 n p fits in
    let index : 31 - count_leading_zeros 32 n ≡ top.0 = omega (arith, top.1) in
    let power : 2 ^ suc top.0 ≡ 2 * 2 ^ top.0 = pow-succ' 2 top.0 in
    let one = same_quotient n 1 top.0 (omega (arith, top.2)) (omega (arith, top.3, power, pow_pos top.0)) in
    (omega (arith, index), subst (λ k. bit_at n k ≡ 1) (sym index) (ap (λ q. q % 2) one))
