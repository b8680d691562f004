-- Digits from the last to the first.
use Rattle.scf_insn.proofs.Common.{◌≡◌, ℕ, suc, ◌+◌, ◌-◌, ◌/◌, ◌%◌, ◌^◌, ◌<◌, ◌≤◌, false, cond, eqb, List, [], ◌∷◌, refl, arith, digits_onto, digit_glyph, ne_eqb, mul-le-mul_left, div-lt_iff_lt-mul, pow-suc}
use Rattle.std.specs.Fmt.{digits}

-- what is still written of a number in front of these digits, at the index in the bytes
unfoldable pub with_front : ℕ → ℕ → ℕ → List ℕ → List ℕ
with_front base start left acc = cond (eqb left 0) acc (digits_onto (44 + start) base false left acc)

pub first_digit : (base n : ℕ) → with_front base 19 (n / base) (digit_glyph false (n % base) ∷ []) ≡ digits base false n
unfolding with_front digits
first_digit base n = refl

pub next_digit : (base start left : ℕ) (acc : List ℕ) → 0 < start → 0 < left
    → with_front base (start - 1) (left / base) (digit_glyph false (left % base) ∷ acc) ≡ with_front base start left acc
unfolding with_front
next_digit base start left acc some more =
    let k : 44 + start ≡ suc (44 + (start - 1)) = omega arith in
    rw (k, ne_eqb left 0 (λ e. omega arith)) refl

pub last_digit : (base start : ℕ) (acc : List ℕ) → with_front base start 0 acc ≡ acc
unfolding with_front
last_digit base start acc = refl

fewer_below : (base k left : ℕ) → 10 ≤ base → left < 10 ^ suc k → left / base < 10 ^ k
fewer_below base k left h1 h2 = grind (arith, div-lt_iff_lt-mul, mul-le-mul_left, pow-suc)

pub fewer : (base start left : ℕ) → 10 ≤ base → 0 < start → left < 10 ^ start → left / base < 10 ^ (start - 1)
fewer base start left h1 h2 h3 = grind (arith, fewer_below)

pub fewer_than_twenty : (base n : ℕ) → 10 ≤ base → n < 2 ^ 64 → n / base < 10 ^ 19
fewer_than_twenty base n low few = fewer base 20 n low (omega arith) (omega arith)

pub has_index : (start left : ℕ) → 0 < left → left < 10 ^ start → 0 < start
has_index start left h1 h2 = grind arith
