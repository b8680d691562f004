-- A numeral with one more digit.
use Rattle.scf_insn.proofs.Common.{◌≡◌, ℕ, ◌+◌, ◌*◌, ◌<◌, true, Bool, List, [], ◌∷◌, ◌++◌, length, get_or, take, refl, Option, list_all, is_digit, digit_value, digits_value, lt-ltb, and_from, and_parts, take_more, digits_value_more, IsWithinRange}

all_push : (p : ℕ → Bool) (xs : List ℕ) (y : ℕ) → list_all p xs ≡ true → p y ≡ true → list_all p (xs ++ y ∷ []) ≡ true
all_push p [] y h k = rw k refl
all_push p (x ∷ xs) y h k = let both = and_parts (p x) (list_all p xs) h in
    and_from (p x) (list_all p (xs ++ y ∷ [])) both.0 (all_push p xs y both.1 k)

pub digits_more : (radix : ℕ) (digits : List ℕ) (i : ℕ) → i < length digits → digit_value (get_or digits i 0) < radix
    → list_all (λ digit. is_digit digit radix) (take i digits) ≡ true
    → list_all (λ digit. is_digit digit radix) (take (i + 1) digits) ≡ true
digits_more radix digits i inside small so_far =
    rw (take_more digits i 0 inside)
    (all_push (λ digit. is_digit digit radix) (take i digits) (get_or digits i 0) so_far
    (lt-ltb (digit_value (get_or digits i 0)) radix small))

pub value_more : (radix : ℕ) (digits : List ℕ) (i digit : ℕ) (value : Option ℕ) → i < length digits
    → digit ≡ digit_value (get_or digits i 0)
    → IsWithinRange value (digits_value radix (take i digits) * radix + digit)
    → IsWithinRange value (digits_value radix (take (i + 1) digits))
value_more radix digits i digit value inside e h = rw (digits_value_more radix digits i inside, ← e) h
