-- The first line of a text, and the first field of a line.
use Rattle.scf_profile.proofs.Common.{◌≡◌, ℕ, ◌+◌, ◌<◌, Bool, true, false, cond, eqb, ltb, List, [], ◌∷◌, ◌++◌, length, get_or, take, drop, All, sym, ap, ◌∙◌, arith, add-one, slice_split, filter, lines, lines_of_parts, strip_carriage_return, drop-cons, lt-ltb, ne_eqb, both_ways, take-append-drop, length-take, slice_split_at, slice_split_none, slice_split-cons_yes, length-slice_split, is_separator, fields, nat_tests, common_steps}

-- a list from an index on
from_at : (xs : List ℕ) (i : ℕ) → i < length xs → drop i xs ≡ get_or xs i 0 ∷ drop (i + 1) xs
from_at xs i lt = rw (add-one, drop-cons xs i 0)

-- the first part of a list ends where the test is first passed
first_part : (p : ℕ → Bool) (xs : List ℕ) (i : ℕ) → i < length xs → All (λ b. p b ≡ false) (take i xs)
    → p (get_or xs i 0) ≡ true → slice_split p xs ≡ take i xs ∷ slice_split p (drop (i + 1) xs)
first_part p xs i lt none here =
    ap (slice_split p) (sym (take-append-drop i xs) ∙ ap (λ (ys : List ℕ). take i xs ++ ys) (from_at xs i lt))
    ∙ slice_split_at p (take i xs) (get_or xs i 0) (drop (i + 1) xs) none here

more_parts : (x : List ℕ) (parts : List (List ℕ)) → 0 < length parts
    → lines_of_parts (x ∷ parts) ≡ strip_carriage_return x ∷ lines_of_parts parts
more_parts x parts h = grind (arith, common_steps, nat_tests)

pub line_ends : (xs : List ℕ) (i : ℕ) → i < length xs → All (λ b. eqb b 10 ≡ false) (take i xs)
    → eqb (get_or xs i 0) 10 ≡ true → lines xs ≡ strip_carriage_return (take i xs) ∷ lines (drop (i + 1) xs)
line_ends xs i lt none here = grind (arith, common_steps, nat_tests, first_part, more_parts, length-slice_split)

pub last_line : (xs : List ℕ) → 0 < length xs → All (λ b. eqb b 10 ≡ false) xs → lines xs ≡ xs ∷ []
last_line xs h none = grind (arith, common_steps, nat_tests, slice_split_none, ne_eqb)

pub field_ends : (xs : List ℕ) (i : ℕ) → 0 < i → i < length xs → All (λ b. is_separator b ≡ false) (take i xs)
    → is_separator (get_or xs i 0) ≡ true → fields xs ≡ take i xs ∷ fields (drop i xs)
field_ends xs i pos lt none here = grind (arith, common_steps, nat_tests, lt-ltb, length-take, first_part, from_at, slice_split-cons_yes)

pub all_or_none : (xs : List ℕ) → All (λ b. is_separator b ≡ false) xs → fields xs ≡ cond (ltb 0 (length xs)) (xs ∷ []) []
all_or_none xs none = ap (filter (λ part. ltb 0 (length part))) (slice_split_none is_separator xs none)

-- the first byte is no blank, so a blank stands later
pub first_passes : (xs : List ℕ) (i : ℕ) → is_separator (get_or xs 0 0) ≡ false → is_separator (get_or xs i 0) ≡ true → 0 < i
first_passes xs i h h2 = grind (arith, common_steps, nat_tests, both_ways)
