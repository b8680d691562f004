-- The names under the numbers of a table are the calls of the table.
use Rattle.scf_profile.proofs.Common.{map-map, ◌≡◌, ℕ, Bool, eqb, List, [], ◌∷◌, map, Option, Some, Global, Bor, Vec, refl, sym, ap, ◌∙◌, subst, get_or, ltb, length, ◌<◌, arith, ◌↔◌, IsSome, Contains, is_some, IsOrdered, eq_by_cmp_equiv, slice_cmp, nat_list_cmp_total, get, AllByRecursion, filter, keys_of, lookup, eq_by_cmp, Ordering, Less, eq-eqb, lt-ltb, nat_tests, nat_cmp_total, All-map, Contains-get_or, IsStrictlySortedBy-filter, option_filter, lookup-filter-values, IsDistinct-from_sorted, IsStrictlyIncreasing-from_sorted, exact_bytes, exact_unsigned, All-found, Contains-keys_from_lookup, IsSome-lookup_from_Contains, btree_map_contains_key_iff, tells_apart, HasItsNames, AreCallsOf, AreSorted, names_of, texts_at, Names, Named, named_call, names_under, names_with, AreByNumber, common_steps}
use Rattle.std.proofs.Common.{nat_cmp}
use Rattle.std.specs.BTreeMap as tree
use Rattle.scf_profile.specs.declared.named_call.NamedCall.{NamedCall}
use Rattle.scf_profile.proofs.NamesOf.{get_named}
use Rattle.std.specs.List.Sorted.{IsStrictlySortedBy}

-- keys are in order where the elements are in the order of their keys
module _ {X K : Type 0} (c : K → K → Ordering) (key : X → K) where
  keys_above : (k : K) (xs : List X)
      → AllByRecursion (λ y. c k y ≡ Less) (map key xs) ↔ AllByRecursion (λ x. c k (key x) ≡ Less) xs
  keys_above k [] = (λ h. h, λ h. h)
  keys_above k (x ∷ xs) = (λ h. (h.0, (keys_above k xs).0 h.1), λ h. (h.0, (keys_above k xs).1 h.1))

  sorted_keys : (xs : List X)
      → IsStrictlySortedBy c (map key xs) ↔ IsStrictlySortedBy (λ x y. c (key x) (key y)) xs
  unfolding IsStrictlySortedBy
  sorted_keys [] = (λ h. h, λ h. h)
  sorted_keys (x ∷ xs) = (
    λ h. ((keys_above (key x) xs).0 h.0, (sorted_keys xs).0 h.1),
    λ h. ((keys_above (key x) xs).1 h.0, (sorted_keys xs).1 h.1),
  )

abbrev by_bytes : List ℕ → List ℕ → Ordering
by_bytes = slice_cmp nat_cmp

abbrev has_number : ℕ → List ℕ × ℕ → Bool
has_number n e = eqb n e.1

-- ---- entries as a map from names to numbers

is_number : (n : ℕ) (o : Option ℕ) → IsSome (option_filter (eqb n) o) → o ≡ Some n
is_number n o h = grind (arith, common_steps, nat_tests)

number_is : (n : ℕ) (o : Option ℕ) → o ≡ Some n → IsSome (option_filter (eqb n) o)
number_is n o e = rw (e, eq-eqb n n refl) refl

module _ (entries : List (List ℕ × ℕ)) (sorted : AreSorted entries) where
  abbrev table : Names
  table = names_of entries

  rising : IsStrictlySortedBy (λ (x y : List ℕ × ℕ). by_bytes x.0 y.0) entries
  rising = (sorted_keys by_bytes (λ (e : List ℕ × ℕ). e.0) entries).0 sorted

  names_rise : (n : ℕ) → IsStrictlySortedBy by_bytes (names_with n entries)
  names_rise n = grind (arith, common_steps, nat_tests, sorted_keys, IsStrictlySortedBy-filter, rising)

  found_with : (n : ℕ) (q : List ℕ) → lookup (eq_by_cmp by_bytes q) (filter (has_number n) entries)
      ≡ option_filter (eqb n) (get table q)
  found_with n q =
      let distinct = IsDistinct-from_sorted by_bytes _ sorted in
      lookup-filter-values (eq_by_cmp_equiv nat_list_cmp_total) (eqb n) q entries distinct
      ∙ ap (option_filter (eqb n)) (sym (get_named entries q))

  -- the names with a number are those that have it in the map
  names_exact : (n : ℕ) (q : List ℕ) → Contains (names_with n entries) q ↔ (get table q ≡ Some n)
  names_exact n q = (
    λ stands. is_number n _ (subst IsSome (found_with n q)
        (IsSome-lookup_from_Contains (eq_by_cmp_equiv nat_list_cmp_total) q _ stands)),
    λ is. Contains-keys_from_lookup (tells_apart exact_bytes) q _
        (subst IsSome (sym (found_with n q)) (number_is n _ is)),
  )

  -- ---- names under numbers as calls

  module _ (under : Named) (by_number : AreByNumber entries under) (rising : IsOrdered nat_cmp under) where
    its_names : (e : ℕ × Vec (Bor (List ℕ)) Global) → tree.get nat_cmp under e.0 ≡ Some e.1
        → HasItsNames table (named_call e)
    its_names e stands =
        let there : names_under under e.0 ≡ texts_at e.1.items = rw stands refl in
        let same : texts_at e.1.items ≡ names_with e.0 entries = sym there ∙ by_number.names e.0 in
        record { rising = rw same (names_rise e.0); exact = λ q. rw same (names_exact e.0 q) }

    numbers_exact : (n : ℕ) → Contains (keys_of under.entries) n ↔ ((name : List ℕ) × (get table name ≡ Some n))
    numbers_exact n =
        let key = btree_map_contains_key_iff nat_cmp_total exact_unsigned under n in
        let names = names_with n entries in
        let is : is_some (tree.get nat_cmp under n) ≡ ltb 0 (length names) =
        by_number.numbers_in n ∙ ap (λ (l : List (List ℕ)). ltb 0 (length l)) (by_number.names n) in (
          λ stands.
              let some : 0 < length names = let has_names = sym is ∙ key.1 stands in grind (arith, nat_tests) in
              (get_or names 0 [], (names_exact n _).0 (Contains-get_or names 0 [] some)),
          λ (name, has).
              let place = (names_exact n name).1 has in
              key.0 (is ∙ lt-ltb 0 (length names) (omega (arith, place.1))),
        )

    -- the numbers of names, each over its names, are the calls of the table
    pub are_calls : AreCallsOf table (map named_call under.entries)
    are_calls =
        let numbers = map-map (λ (call : NamedCall). call.number) named_call under.entries in
        record {
          rising = rw numbers (IsStrictlyIncreasing-from_sorted _ rising);
          exact = λ n. rw numbers (numbers_exact n);
          names =
              All-map (HasItsNames table) named_call under.entries
              (λ k d lt. its_names (get_or under.entries k d) (All-found nat_cmp_total under rising k d lt));
        }
