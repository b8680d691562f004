-- Comparing numbers of 64 bits by their halves, and the words of a record.
use Rattle.scf_insn.proofs.Common.{◌≡◌, ℕ, zero, suc, ◌+◌, ◌*◌, ◌<◌, ◌^◌, true, false, cond, eqb, ltb, leb, List, [], ◌∷◌, get_or, refl, arith, bit_and, slice_index, flat_map, cases_eq, eq-eqb, ne_eqb, nat_tests, and_shr, and_mod, CallRecord, low, high, halves, words_of, argument}

-- a number is its halves
whole : (n : ℕ) → n ≡ 2 ^ 32 * high n + low n
whole n = omega arith

low_below : (n : ℕ) → low n < 2 ^ 32
low_below n = omega arith

pub eqb_split : (n v : ℕ) → eqb n v ≡ cond (eqb (high n) (high v)) (eqb (low n) (low v)) false
eqb_split n v = grind (arith, cases_eq, eq-eqb, ne_eqb)

-- a test of two numbers that agrees with the order of their high halves, and else with that of the low ones
pub ltb_split : (v n : ℕ)
    → ltb v n ≡ cond (ltb (high v) (high n)) true (cond (eqb (high n) (high v)) (ltb (low v) (low n)) false)
ltb_split v n = grind (arith, nat_tests, whole n, whole v, low_below n, low_below v)

pub leb_split : (v n : ℕ)
    → leb v n ≡ cond (ltb (high v) (high n)) true (cond (eqb (high n) (high v)) (leb (low v) (low n)) false)
leb_split v n = grind (arith, nat_tests, whole n, whole v, low_below n, low_below v)

pub masked_split : (n m v : ℕ)
    → eqb (bit_and n m) v ≡ cond (eqb (bit_and (high n) (high m)) (high v)) (eqb (bit_and (low n) (low m)) (low v))
    false
masked_split n m v =
    let h : high (bit_and n m) ≡ bit_and (high n) (high m) = and_shr n m 32 in
    let l : low (bit_and n m) ≡ bit_and (low n) (low m) = and_mod n m 32 in
    rw (← h, ← l) (eqb_split (bit_and n m) v)

-- ---- the words of a record

low_word : (xs : List ℕ) (i : ℕ) → get_or (flat_map halves xs) (2 * i) 0 ≡ low (get_or xs i 0)
low_word [] i = refl
low_word (x ∷ xs) zero = refl
low_word (x ∷ xs) (suc i) = let e : 2 * suc i ≡ suc (suc (2 * i)) = omega arith in rw e (low_word xs i)

high_word : (xs : List ℕ) (i : ℕ) → get_or (flat_map halves xs) (2 * i + 1) 0 ≡ high (get_or xs i 0)
high_word [] i = refl
high_word (x ∷ xs) zero = refl
high_word (x ∷ xs) (suc i) = let e : 2 * suc i + 1 ≡ suc (suc (2 * i + 1)) = omega arith in rw e (high_word xs i)

pub argument_low : (call : CallRecord) (i : ℕ) → slice_index (words_of call) (2 * i + 4) ≡ low (argument call i)
argument_low call i = let e : 2 * i + 4 ≡ suc (suc (suc (suc (2 * i)))) = omega arith in rw e (low_word call.args i)

pub argument_high : (call : CallRecord) (i : ℕ) → slice_index (words_of call) (2 * i + 4 + 1) ≡ high (argument call i)
argument_high call i = let e : 2 * i + 4 + 1 ≡ suc (suc (suc (suc (2 * i + 1)))) = omega arith in
    rw e (high_word call.args i)
