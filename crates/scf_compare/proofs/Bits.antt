-- Words under masks.
use Rattle.std.proofs.Math.Nat.{div-le_self}
use Rattle.scf_compare.proofs.Common.{div-one, ◌+◌, ◌*◌, ◌/◌, ◌%◌, add_comm, and_comm, mul_comm, or_comm, xor_comm, Arithmetic, Add, Sub, Mul, Div, Or, And, Lsh, Rsh, Xor, value_computed, and_le_l, or_lt, same_from_bits, xor_lt, ◌≡◌, ◌≢◌, ℕ, ◌-◌, ◌<◌, ◌≤◌, ◌^◌, true, false, eqb, leb, List, sym, ◌∙◌, arith, bit_and, slice_index, eq-eqb, eqb-true, and_mask, bit_at_and, bit_at_or, bit_at_xor, bit_at-lt, bit_at-zero, mod-eq_of_lt, IsWords, word_below}

-- what each bit is of numbers that are joined
pub ruleset each_bit = (bit_at_and, bit_at_or, bit_at_xor, bit_at-lt, bit_at-zero)

-- a word under all of its bits is the word
pub whole_word : (x : ℕ) → x < 2 ^ 32 → x ≡ bit_and x 4294967295
whole_word x h = sym (and_mask x 32 ∙ mod-eq_of_lt h)

-- all of its bits fix a word
pub fixed : (x m v : ℕ) → x < 2 ^ 32 → m ≡ 2 ^ 32 - 1 → bit_and x m ≡ v → v ≡ x
fixed x m v fits whole has = sym (whole_word x fits ∙ rw whole at has)

-- ---- what an atom's answer about a whole word means

pub word_is : (words : List ℕ) (i v : ℕ) → IsWords words → eqb (bit_and (slice_index words i) 4294967295) v ≡ true
    → slice_index words i ≡ v
word_is words i v w e = whole_word _ (word_below words w i) ∙ eqb-true _ _ e

pub word_isnt : (words : List ℕ) (i v : ℕ) → IsWords words → eqb (bit_and (slice_index words i) 4294967295) v ≡ false
    → slice_index words i ≢ v
word_isnt words i v w e = grind (arith, eq-eqb, whole_word, word_below)

pub at_least : (x v : ℕ) → leb v x ≡ true → v ≤ x
at_least x v e = grind arith

pub below : (x v : ℕ) → leb v x ≡ false → x < v
below x v e = grind arith

pub ruleset word_answers = (word_is, word_isnt, at_least, below)

pub ruleset whole_words = (whole_word, word_below, word_is)

-- ---- bits that are known

pub sum_with_zero : (a v : ℕ) → a < 2 ^ 32 → v ≡ 0 → (a + v) % 2 ^ 32 ≡ a
sum_with_zero a v fits none = omega arith

pub product_with_one : (a v : ℕ) → a < 2 ^ 32 → v ≡ 1 → a * v % 2 ^ 32 ≡ a
product_with_one a v fits one = rw one (omega arith)

pub quotient_by_one : (a v : ℕ) → v ≡ 1 → a / v ≡ a
quotient_by_one a v one = rw one (div-one a)

-- ---- what is computed

-- a computation on 32-bit numbers has a 32-bit result
pub computed_fits : (arithmetic : Arithmetic) (a v : ℕ) → a < 2 ^ 32 → v < 2 ^ 32
    → value_computed arithmetic a v < 2 ^ 32
computed_fits arithmetic a v h k =
    grind (arith, div-le_self a, and_le_l a v, or_lt 32 a v h k, xor_lt 32 a v h k, value_computed)
