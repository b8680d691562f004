-- Eight hexadecimal digits, as the digits of four bytes, and the digits of a number, as those before its last one.
use Rattle.std.proofs.Common.{◌-◌, ◌/◌, ◌%◌, ◌^◌, cond, ⊎_elim}
use Rattle.std.proofs.lemmas.Bool.{cases_lt, eq-eqb, ne_eqb}
use Rattle.std.proofs.lemmas.Fmt.{hex_byte}
use Rattle.std.specs.Fmt.{digit_glyph, digits, digits_onto, format_spec, padded_integral}
use Rattle.scf_tool.proofs.Common.{List, [], ap, append_assoc, arith, false, refl, suc, sym, zero, ℕ, ◌++◌, ◌<◌, ◌≤◌, ◌≡◌, ◌∙◌, ◌∷◌}
use Rattle.scf_tool.specs.Numerals.{eight_digits}

-- what is written of a byte
abbrev pub byte_text : ℕ → List ℕ
byte_text n = padded_integral (format_spec 32 0 4 2 (2 ^ 64 - 1)) false [] (digits 16 false n)

pub eight_by_bytes : (n : ℕ) → n < 2 ^ 32
    → byte_text (n / 16777216) ++ (byte_text (n / 65536 % 256) ++ (byte_text (n / 256 % 256) ++ byte_text (n % 256)))
    ≡ eight_digits n
eight_by_bytes n small =
    let e7 : n / 16777216 / 16 ≡ n / 16 ^ 7 % 16 = omega arith in
    let e6 : n / 16777216 % 16 ≡ n / 16 ^ 6 % 16 = omega arith in
    let e5 : n / 65536 % 256 / 16 ≡ n / 16 ^ 5 % 16 = omega arith in
    let e4 : n / 65536 % 256 % 16 ≡ n / 16 ^ 4 % 16 = omega arith in
    let e3 : n / 256 % 256 / 16 ≡ n / 16 ^ 3 % 16 = omega arith in
    let e2 : n / 256 % 256 % 16 ≡ n / 16 ^ 2 % 16 = omega arith in
    let e1 : n % 256 / 16 ≡ n / 16 ^ 1 % 16 = omega arith in
    let e0 : n % 256 % 16 ≡ n / 16 ^ 0 % 16 = omega arith in
    rw (
      hex_byte false (n / 16777216) (omega arith),
      hex_byte false (n / 65536 % 256) (omega arith),
      hex_byte false (n / 256 % 256) (omega arith),
      hex_byte false (n % 256) (omega arith),
      e7,
      e6,
      e5,
      e4,
      e3,
      e2,
      e1,
      e0,
    )
    refl

-- ---- the digits of a number end in its last one

abbrev spelled : ℕ → ℕ → List ℕ → List ℕ
spelled k n acc = digits_onto k 16 false n acc

abbrev last_glyph : ℕ → ℕ
last_glyph n = digit_glyph false (n % 16)

spelled_last : (k n : ℕ) (acc : List ℕ) → n < 16 → spelled (suc k) n acc ≡ last_glyph n ∷ acc
spelled_last k n acc h =
    ap (λ t. cond t (last_glyph n ∷ acc) (spelled k (n / 16) (last_glyph n ∷ acc))) (eq-eqb (n / 16) 0 (omega arith))

spelled_next : (k n : ℕ) (acc : List ℕ) → 16 ≤ n → spelled (suc k) n acc ≡ spelled k (n / 16) (last_glyph n ∷ acc)
spelled_next k n acc h =
    ap (λ t. cond t (last_glyph n ∷ acc) (spelled k (n / 16) (last_glyph n ∷ acc)))
    (ne_eqb (n / 16) 0 (λ e. omega arith))

-- what is spelled stands before what was
spelled-append : (k n : ℕ) (acc : List ℕ) → spelled k n acc ≡ spelled k n [] ++ acc
spelled-append zero n acc = refl
spelled-append (suc k) n acc = ⊎_elim
    (λ l. spelled_last k n acc l ∙ ap (λ x. x ++ acc) (sym (spelled_last k n [] l)))
    (λ l. spelled_next k n acc l ∙ spelled-append k (n / 16) (last_glyph n ∷ acc)
    ∙ sym (append_assoc (spelled k (n / 16) []) (last_glyph n ∷ []) acc)
    ∙ ap (λ x. x ++ acc) (sym (spelled_next k n [] l ∙ spelled-append k (n / 16) (last_glyph n ∷ []))))
    (cases_lt n 16)

-- so many digits are enough
spelled_enough : (j k n : ℕ) (acc : List ℕ) → n < 16 ^ suc j → n < 16 ^ suc k
    → spelled (suc j) n acc ≡ spelled (suc k) n acc
spelled_enough zero k n acc p q = spelled_last zero n acc (omega arith) ∙ sym (spelled_last k n acc (omega arith))
spelled_enough (suc j) zero n acc p q =
    spelled_last (suc j) n acc (omega arith) ∙ sym (spelled_last zero n acc (omega arith))
spelled_enough (suc j) (suc k) n acc p q = ⊎_elim
    (λ l. spelled_last (suc j) n acc l ∙ sym (spelled_last (suc k) n acc l))
    (λ l. spelled_next (suc j) n acc l ∙ spelled_enough j k (n / 16) (last_glyph n ∷ acc) (omega arith) (omega arith)
    ∙ sym (spelled_next (suc k) n acc l))
    (cases_lt n 16)

digits-spelled : (n : ℕ) → spelled 64 n [] ≡ digits 16 false n
unfolding digits
digits-spelled n = refl

pub digits_step : (n : ℕ) → 16 ≤ n → n < 2 ^ 32
    → digits 16 false (n / 16) ++ (digit_glyph false (n % 16) ∷ []) ≡ digits 16 false n
digits_step n h small =
    sym (sym (digits-spelled n) ∙ spelled_next 63 n [] h
    ∙ spelled_enough 62 63 (n / 16) (last_glyph n ∷ []) (omega arith) (omega arith)
    ∙ spelled-append 64 (n / 16) (last_glyph n ∷ [])
    ∙ ap (λ x. x ++ (last_glyph n ∷ [])) (digits-spelled (n / 16)))
