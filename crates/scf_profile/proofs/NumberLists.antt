-- The numbers that rules have, each with its rules.
use Rattle.scf_profile.proofs.Common.{true, AllPairs, sum, Decides-eqb, filter_passes, AllPairs-cons, AllPairs-filter, AllPairs-from_increasing, sum-map, sum_by-le, Contains-tail, IsDistinct-from_AllPairs, All-cons, All-permutation, map-map, ◌≡◌, ◌≢◌, ℕ, ◌+◌, ◌<◌, ◌⊎◌, false, not, eqb, length, List, [], ◌∷◌, map, get_or, All, refl, sym, ap, ◌∙◌, subst, arith, inl, inr, Contains, cases_eq, eq-eqb, ne_eqb, nat_tests, length-map, get_or-map, All-filter, All-from_recursion, All-map, All-contains, Contains-append_right, IsPermutation, IsStrictlyIncreasing, Rule, numbers_of, rules_of, NumberRules, AreNumbersOf, AreRising, sum_by, IsPermutation-cons, IsPermutation-refl, IsPermutation-remove, IsPermutation-sym, IsPermutation-trans, IsDistinct, IsDistinct-IsPermutation, IsDistinct-head, IsDistinct-tail, Contains-permutation, length_permutation, sum_by-IsPermutation, sum_by-cons, remove, All-contains_itself, All-weaker, All-head, All-tail, AreUnder, Under, pair_of, rules_under, keys_of, value_of, nat_cmp, nat_cmp_total, exact_unsigned, IsOrdered, IsStrictlyIncreasing-from_sorted, btree_map_contains_key_iff, All-found, is_some, ltb, lt-ltb, common_steps}
use Rattle.scf_profile.proofs.Numbers.{contains_filtered, number_there}

-- ---- lists of distinct numbers

eqb_flips : (x y : ℕ) → eqb x y ≡ eqb y x
eqb_flips x y = grind (arith, nat_tests)

-- the first of distinct numbers isn't among the others
first_alone : (x : ℕ) (xs : List ℕ) → IsDistinct eqb (x ∷ xs) → (n : ℕ) → Contains xs n → x ≡ n → ⊥
first_alone x xs distinct n (k, lt, at) e =
    let apart = All-from_recursion (λ y. eqb x y ≡ false) xs (IsDistinct-head eqb x xs distinct) k n lt in
    grind (arith, nat_tests, apart, at, e)

-- distinct numbers that are the same ones stand in another order
same_numbers : (xs ys : List ℕ) → IsDistinct eqb xs → IsDistinct eqb ys → ((n : ℕ) → Contains xs n → Contains ys n)
    → ((n : ℕ) → Contains ys n → Contains xs n) → IsPermutation xs ys
same_numbers [] [] dx dy to from = IsPermutation-refl []
same_numbers [] (y ∷ ys) dx dy to from =
    let has = from y (0, omega arith, refl) in absurd (let lt : has.0 < 0 = has.1 in omega arith)
same_numbers (x ∷ xs) ys dx dy to from =
    let at = to x (0, omega arith, refl) in
    let others = remove ys at.0 in
    let moved : IsPermutation ys (x ∷ others) = IsPermutation-remove ys at.0 x at.1 (sym at.2) in
    let apart = IsDistinct-IsPermutation eqb eqb_flips ys (x ∷ others) moved dy in
    let tail = same_numbers xs others (IsDistinct-tail eqb x xs dx) (IsDistinct-tail eqb x others apart)
    (λ n has. Contains-tail x others n (first_alone x xs dx n has)
    (Contains-permutation ys (x ∷ others) n moved (to n (Contains-append_right (x ∷ []) xs n has))))
    (λ n has. Contains-tail x xs n (first_alone x others apart n has)
    (from n (Contains-permutation (x ∷ others) ys n (IsPermutation-sym ys (x ∷ others) moved)
    (Contains-append_right (x ∷ []) others n has)))) in
    IsPermutation-trans (x ∷ xs) (x ∷ others) ys (IsPermutation-cons x xs others tail)
    (IsPermutation-sym ys (x ∷ others) moved)

risen_distinct : (ns : List ℕ) → IsStrictlyIncreasing ns → IsDistinct eqb ns
risen_distinct ns up =
    grind (arith, common_steps, nat_tests, IsDistinct-from_AllPairs, Decides-eqb, AllPairs-from_increasing)

numbers_apart : (rules : List Rule) → AllPairs (λ x y. x ≢ y) (numbers_of rules)
numbers_apart [] = λ i j d before inside. absurd (omega arith)
numbers_apart (r ∷ rules) =
    AllPairs-cons (λ x y. x ≢ y) r.number _
    (All-weaker (λ n. not (eqb n r.number) ≡ true) (λ n. r.number ≢ n) (λ n differs same. grind (arith, nat_tests)) _
    (filter_passes (λ n. not (eqb n r.number)) (numbers_of rules)))
    (AllPairs-filter (λ x y. x ≢ y) (λ n. not (eqb n r.number)) (numbers_of rules) (numbers_apart rules))

numbers_distinct : (rules : List Rule) → IsDistinct eqb (numbers_of rules)
numbers_distinct rules = IsDistinct-from_AllPairs Decides-eqb (numbers_of rules) (numbers_apart rules)

-- ---- rules under their numbers

abbrev pub number_in : NumberRules → ℕ
number_in group = group.number

-- a number of rules is among the distinct ones
some_rules : (rules : List Rule) (nr : ℕ) → 0 < length (rules_of nr rules) → Contains (numbers_of rules) nr
some_rules rules nr some = grind (arith, common_steps, nat_tests, number_there)

-- what holds of the number of each rule holds of the distinct ones
numbers_all : (P : ℕ → Type 0) (rules : List Rule) → All (λ r. P r.number) rules → All P (numbers_of rules)
numbers_all P [] all = λ k d lt. absurd (omega arith)
numbers_all P (r ∷ rules) all =
    All-cons P r.number _ (All-head (λ s. P s.number) r rules all)
    (All-filter (λ nr. not (eqb nr r.number)) P (numbers_of rules)
    (numbers_all P rules (All-tail (λ s. P s.number) r rules all)))

-- each rule is one of its number
pub with_own : (rules : List Rule) → All (λ r. 0 < length (rules_of r.number rules)) rules
with_own rules =
    All-weaker (Contains rules) (λ r. 0 < length (rules_of r.number rules)) (λ r has.
    let there = contains_filtered (λ s. eqb s.number r.number) rules r (eq-eqb r.number r.number refl) has in
    omega (arith, there.1)) rules (All-contains_itself rules)

-- each distinct number is that of some rule
rules_there : (rules : List Rule) → All (λ nr. 0 < length (rules_of nr rules)) (numbers_of rules)
rules_there rules = numbers_all (λ nr. 0 < length (rules_of nr rules)) rules (with_own rules)

module _ (rules : List Rule) (under : Under) (are_under : AreUnder rules under) (ordered : IsOrdered nat_cmp under) where
  is_there : (nr : ℕ) → is_some (value_of nat_cmp under nr) ≡ ltb 0 (length (rules_of nr rules))
  is_there nr = are_under.numbers_in nr ∙ ap (λ (l : List Rule). ltb 0 (length l)) (are_under.kept nr)

  keys_rise : IsStrictlyIncreasing (keys_of under.entries)
  keys_rise = IsStrictlyIncreasing-from_sorted _ ordered

  same_keys : IsPermutation (numbers_of rules) (keys_of under.entries)
  same_keys =
      same_numbers (numbers_of rules) (keys_of under.entries) (numbers_distinct rules)
      (risen_distinct (keys_of under.entries) keys_rise)
      (λ nr has. (btree_map_contains_key_iff nat_cmp_total exact_unsigned under nr).0
      (is_there nr ∙ lt-ltb 0 (length (rules_of nr rules))
      (All-contains (λ m. 0 < length (rules_of m rules)) (numbers_of rules) nr (rules_there rules) has)))
      (λ nr has.
      let has_rules = sym (is_there nr) ∙ (btree_map_contains_key_iff nat_cmp_total exact_unsigned under nr).1 has in
      some_rules rules nr (grind (arith, nat_tests)))

  -- the numbers of a tree over their rules
  pub are_numbers : (numbers : List NumberRules) → map pair_of numbers ≡ under.entries
      → All (λ group. group.is_rising ≡ true → AreRising group.rules.items) numbers → AreNumbersOf numbers rules
  are_numbers numbers entries risen =
      let keys : keys_of under.entries ≡ map number_in numbers =
      rw (sym entries) (map-map (λ e. e.0) pair_of numbers) in
      record {
        rising = subst IsStrictlyIncreasing keys keys_rise;
        same = subst (IsPermutation (numbers_of rules)) keys same_keys;
        own = λ k d lt.
            let group = get_or numbers k d in
            let e = get_or under.entries k (pair_of d) in
            let here : e ≡ pair_of group = rw (sym entries) (get_or-map pair_of numbers k d (pair_of d) lt) in
            let within : k < length under.entries = rw (sym entries, length-map) lt in
            let there : rules_under under e.0 ≡ e.1.items = rw (All-found nat_cmp_total under ordered k (pair_of d) within) refl in
            rw here at (sym there ∙ are_under.kept e.0);
        risen = risen;
      }

-- ---- what crates above cite

-- an element of mapped ones is that of an element
contains_mapped : {X : Type 0} (f : X → ℕ) (xs : List X) (n : ℕ) → Contains (map f xs) n
    → (x : X) × Contains xs x × (f x ≡ n)
contains_mapped f xs n has =
    All-contains (λ m. (x : _) × Contains xs x × (f x ≡ m)) (map f xs) n
    (All-map (λ m. (x : _) × Contains xs x × (f x ≡ m)) f xs
    (λ k d lt. (get_or xs k d, All-contains_itself xs k d lt, refl))) has

sum_of_map : {X : Type 0} (f : ℕ → ℕ) (g : X → ℕ) (xs : List X) → sum_by f (map g xs) ≡ sum_by (λ x. f (g x)) xs
sum_of_map f g xs = sym (sum-map f (map g xs)) ∙ ap sum (map-map f g xs) ∙ sum-map (λ x. f (g x)) xs

-- sums of what is the same of each element
same_sums : {X : Type 0} (f g : X → ℕ) (xs : List X) → All (λ x. f x ≡ g x) xs → sum_by f xs ≡ sum_by g xs
same_sums f g [] h = refl
same_sums f g (x ∷ xs) h =
    let tail = same_sums f g xs (All-tail (λ y. f y ≡ g y) x xs h) in
    let first = All-head (λ x. f x ≡ g x) x xs h in
    omega (arith, tail, first, sum_by-cons f x xs, sum_by-cons g x xs)

-- what is summed up of rules is summed up number by number
module _ (f : Rule → ℕ) where
  abbrev sum_at : List Rule → ℕ → ℕ
  sum_at rules nr = sum_by f (rules_of nr rules)

  -- one more rule counts once among distinct numbers
  sum_with : (r : Rule) (rules : List Rule) (ns : List ℕ) → IsDistinct eqb ns → Contains ns r.number
      → sum_by (sum_at (r ∷ rules)) ns ≡ f r + sum_by (sum_at rules) ns
  unfolding IsDistinct
  sum_with r rules [] distinct has = absurd (let lt : has.0 < 0 = has.1 in omega arith)
  sum_with r rules (n ∷ ns) distinct has =
      let g = sum_at (r ∷ rules) in
      let now = sum_by-cons g n ns in
      let before = sum_by-cons (sum_at rules) n ns in
      elim (cases_eq r.number n) [
        | inl same ↦
            let with_rule : g n ≡ f r + sum_at rules n = rw (eq-eqb r.number n same) (sum_by-cons f r (rules_of n rules)) in
            let others = same_sums g (sum_at rules) ns (λ k d lt.
            let apart = All-from_recursion (λ m. eqb n m ≡ false) ns distinct.0 k d lt in
            let differs : eqb r.number (get_or ns k d) ≡ false = rw same apart in rw differs refl) in
            omega (arith, with_rule, others, now, before)
        | inr apart ↦
            let unchanged : g n ≡ sum_at rules n = rw (ne_eqb r.number n apart) refl in
            let tail = sum_with r rules ns distinct.1 (Contains-tail n ns r.number (λ e. apart (sym e)) has) in
            omega (arith, unchanged, tail, now, before)
      ]

  sum_in_parts : (ns : List ℕ) → IsDistinct eqb ns → (rules : List Rule) → All (λ r. Contains ns r.number) rules
      → sum_by (sum_at rules) ns ≡ sum_by f rules
  sum_in_parts ns distinct [] all = omega (arith, sum_by-le (sum_at []) 0 ns (λ k d lt. omega arith))
  sum_in_parts ns distinct (r ∷ rules) all =
      let tail = sum_in_parts ns distinct rules (All-tail (λ s. Contains ns s.number) r rules all) in
      let first = sum_with r rules ns distinct (All-head (λ s. Contains ns s.number) r rules all) in
      omega (arith, tail, first, sum_by-cons f r rules)

module _ (numbers : List NumberRules) (rules : List Rule) (are : AreNumbersOf numbers rules) where
  pub numbers_rise : (i j : ℕ) (d : NumberRules) → i < j → j < length numbers
      → (get_or numbers i d).number < (get_or numbers j d).number
  numbers_rise i j d before inside =
      let len = length-map numbers number_in in
      let up = AllPairs-from_increasing (map number_in numbers) are.rising i j 0 before (omega arith) in
      rw (get_or-map number_in numbers i d 0 (omega arith), get_or-map number_in numbers j d 0 inside) at up

  -- a number has its rules there, or no rule has it
  pub number_among : (nr : ℕ)
      → ((group : NumberRules) × Contains numbers group × (group.number ≡ nr)) ⊎ (rules_of nr rules ≡ [])
  number_among nr =
      elim (number_there nr rules) [
        | inl there ↦ inl (contains_mapped number_in numbers nr
            (Contains-permutation (numbers_of rules) (map number_in numbers) nr are.same there))
        | inr none ↦ inr none
      ]

  pub count_of_numbers : length numbers ≡ length (numbers_of rules)
  count_of_numbers = grind (arith, common_steps, nat_tests, length-map, length_permutation)

  pub sum_of_own : (f : List Rule → ℕ)
      → sum_by (λ (group : NumberRules). f group.rules.items) numbers
      ≡ sum_by (λ nr. f (rules_of nr rules)) (numbers_of rules)
  sum_of_own f =
      let g : ℕ → ℕ = λ nr. f (rules_of nr rules) in
      same_sums (λ group. f group.rules.items) (λ group. g group.number) numbers (λ k d lt. ap f (are.own k d lt))
      ∙ sym (sum_of_map g number_in numbers)
      ∙ sum_by-IsPermutation g (numbers_of rules) (map number_in numbers) are.same

  pub sum_of_rules : (f : Rule → ℕ)
      → sum_by (λ (group : NumberRules). sum_by f group.rules.items) numbers ≡ sum_by f rules
  sum_of_rules f =
      sum_of_own (sum_by f) ∙ sum_in_parts f (numbers_of rules) (numbers_distinct rules) rules
      (λ k d lt. some_rules rules _ (with_own rules k d lt))

  numbers_hold : (P : ℕ → Type 0) → All P (numbers_of rules) → All (λ group. P group.number) numbers
  numbers_hold P all k d lt =
      let each = All-permutation P (numbers_of rules) (map number_in numbers) are.same all k 0 in
      rw (get_or-map number_in numbers k d 0 lt) at (each (omega (arith, length-map numbers number_in)))

  -- what holds of the number of each rule holds of the numbers that they have
  pub each_number : (P : ℕ → Type 0) → All (λ r. P r.number) rules → All (λ group. P group.number) numbers
  each_number P all = numbers_hold P (numbers_all P rules all)

  -- each number has rules
  pub own_some : All (λ own. 0 < length own.rules.items) numbers
  own_some k d lt =
      rw (are.own k d lt) (numbers_hold (λ nr. 0 < length (rules_of nr rules)) (rules_there rules) k d lt)

  pub own_all : (P : Rule → Type 0) → All P rules → All (λ own. All P own.rules.items) numbers
  own_all P all k d lt = rw (are.own k d lt) (All-filter (λ r. eqb r.number (get_or numbers k d).number) P rules all)
