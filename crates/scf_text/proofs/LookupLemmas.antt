-- Looking names up among sorted labels.
use Rattle.scf_text.proofs.Common.{◌≡◌, ℕ, ◌+◌, ◌<◌, ◌≤◌, Bool, true, false, List, [], ◌∷◌, length, map, get_or, Option, Some, None, refl, sym, ap, ◌∙◌, fun_ext, arith, inl, inr, lookup, ltb, prefix_len, cases_Bool, cases_lt, nat_tests, nat_eq, All, All-head, All-tail, Contains-get_or, Contains-permutation, IsDistinct, IsDistinct-IsPermutation, IsDistinct-from_apart, apart_from_distinct, IsPermutation, IsPermutation-map, IsPermutation-sym, IsSortedBy, length-map, bytes_eq, bytes_eq-Decides, slice_cmp, nat_cmp, is_eq, is_lt, Ordering, Less, Equal, Greater, ordering_then, is_eq-slice_cmp, nat_list_cmp_total, nat_list_eq_equiv, get_or-map, Labels, index_of, labels_at, name_at, is_before, IsRepeat, IsFirstRepeat, NumberedInsn, begins_of}
use Rattle.std.proofs.lemmas.List.Sorted.{searchable_from_sorted}
use Rattle.std.proofs.lemmas.Map.Views.{Contains-from_lookup, lookup-from_Contains}
use Rattle.std.proofs.lemmas.List.Sums.{prefix_len_is}
use Rattle.std.specs.List.Sorted.{IsNonDecreasing, IsNonDecreasingBy, IsPartitionPoint}
use Rattle.std.specs.Map.{keys_of}
use Rattle.std.specs.Ordering.{ordering_index}
use Rattle.scf_text.proofs.ReadLemmas.{bytes_eq_sym}
use Rattle.std.proofs.lemmas.Grind.{common_steps}

-- no two labels of one name

names_of : (text begins labels : List ℕ) → keys_of (labels_at text begins labels) ≡ map (name_at text) labels
names_of text begins [] = refl
names_of text begins (l ∷ labels) = ap (λ (ws : List (List ℕ)). name_at text l ∷ ws) (names_of text begins labels)

repeats : (text labels : List ℕ) (i j : ℕ) → i < length labels → j < length labels
    → get_or labels i 0 < get_or labels j 0 → name_at text (get_or labels i 0) ≡ name_at text (get_or labels j 0)
    → IsRepeat text labels (get_or labels j 0)
repeats text labels i j within also less same = record {
  given = Contains-get_or labels j 0 also;
  earlier = get_or labels i 0;
  given_before = Contains-get_or labels i 0 within;
  before = less;
  same = same;
}

pub names_apart : (text labels : List ℕ) → IsDistinct nat_eq labels → IsFirstRepeat text labels None
    → IsDistinct bytes_eq (map (name_at text) labels)
names_apart text labels apart none =
    IsDistinct-from_apart bytes_eq (map (name_at text) labels) λ i j d lt within.
    let inside : j < length labels = omega (arith, length-map labels (name_at text)) in
    let also : i < length labels = omega arith in
    let a = get_or-map (name_at text) labels i 0 d also in
    let b = get_or-map (name_at text) labels j 0 d inside in
    let other = apart_from_distinct nat_eq labels i j 0 apart lt inside in
    elim (cases_Bool (bytes_eq (name_at text (get_or labels i 0)) (name_at text (get_or labels j 0)))) [
      | inl same ↦
          let words = (bytes_eq-Decides (name_at text (get_or labels i 0)) (name_at text (get_or labels j 0))).0 same in
          elim (cases_lt (get_or labels i 0) (get_or labels j 0)) [
            | inl less ↦ absurd (none (get_or labels j 0) (repeats text labels i j also inside less words))
            | inr le ↦
                let less : get_or labels j 0 < get_or labels i 0 = grind (arith, nat_tests) in
                absurd (none (get_or labels i 0) (repeats text labels j i inside also less (sym words)))
          ]
      | inr differ ↦ rw (a, b) differ
    ]

-- a look-up doesn't depend on the order

same_text : (x y : List ℕ) → bytes_eq x y ≡ true → x ≡ y
same_text x y e = (bytes_eq-Decides x y).0 e

moved_found : (es fs : Labels) (q : List ℕ) (v : ℕ) → IsPermutation es fs → IsDistinct bytes_eq (keys_of fs)
    → lookup (bytes_eq q) es ≡ Some v → lookup (bytes_eq q) fs ≡ Some v
moved_found es fs q v moved apart found =
    lookup-from_Contains nat_list_eq_equiv q v fs apart
    (Contains-permutation es fs (q, v) moved (Contains-from_lookup same_text q v es found))

moved_same : (es fs : Labels) (q : List ℕ) (o p : Option ℕ) → IsPermutation es fs → IsDistinct bytes_eq (keys_of es)
    → IsDistinct bytes_eq (keys_of fs) → lookup (bytes_eq q) es ≡ o → lookup (bytes_eq q) fs ≡ p → o ≡ p
moved_same es fs q o p moved apart also e f = grind (arith, common_steps, nat_tests, moved_found, IsPermutation-sym)

pub indices_moved : (text begins xs ys : List ℕ) → IsPermutation xs ys
    → IsDistinct bytes_eq (map (name_at text) ys)
    → index_of (labels_at text begins ys) ≡ index_of (labels_at text begins xs)
indices_moved text begins xs ys moved apart = fun_ext λ q.
    let es = labels_at text begins xs in
    let fs = labels_at text begins ys in
    let p = IsPermutation-map (λ s. (name_at text s, prefix_len (λ b. ltb b s) begins)) xs ys moved in
    let also : IsDistinct bytes_eq (keys_of fs) = rw names_of apart in
    let both : IsDistinct bytes_eq (keys_of es) =
    rw names_of (IsDistinct-IsPermutation bytes_eq bytes_eq_sym (map (name_at text) ys) (map (name_at text) xs)
    (IsPermutation-map (name_at text) ys xs (IsPermutation-sym xs ys moved)) apart) in
    sym (moved_same es fs q (lookup (bytes_eq q) es) (lookup (bytes_eq q) fs) p both also refl refl)

-- a search by halves

name_first : (r s : Ordering) → is_lt (ordering_then r s) ≡ false → is_lt r ≡ false
name_first r s h = grind (arith, common_steps, nat_tests)

pub by_name : (text labels name : List ℕ) → IsSortedBy (is_before text) labels
    → IsNonDecreasingBy (λ l. ordering_index (slice_cmp nat_cmp (name_at text l) name)) labels
by_name text labels name sorted =
    searchable_from_sorted nat_list_cmp_total (name_at text) labels name
    (λ k d le lt. name_first
    (slice_cmp nat_cmp (name_at text (get_or labels (k + 1) d)) (name_at text (get_or labels k d)))
    (nat_cmp (get_or labels (k + 1) d) (get_or labels k d)) (sorted k d le lt))

-- the instructions before a label

pub drafts_follow : (parsed_insns : List NumberedInsn) → IsNonDecreasing (begins_of parsed_insns)
    → IsNonDecreasingBy (λ d. d.start) parsed_insns
drafts_follow parsed_insns following i j d le lt =
    let first = get_or-map (λ (d : NumberedInsn). d.start) parsed_insns i d 0 (omega arith) in
    let second = get_or-map (λ (d : NumberedInsn). d.start) parsed_insns j d 0 lt in
    omega (arith, first, second, following i j 0 le (omega (arith, length-map parsed_insns (λ d. d.start))))

pub begun_before : (parsed_insns : List NumberedInsn) (label index : ℕ) → index ≤ length parsed_insns
    → IsPartitionPoint (λ d. ltb d.start label ≡ true) (λ d. ltb d.start label ≡ false) parsed_insns index
    → prefix_len (λ b. ltb b label) (begins_of parsed_insns) ≡ index
begun_before [] label index le point = omega arith
begun_before (d ∷ ds) label index le point =
    let parsed_insns = d ∷ ds in
    let test : ℕ → Bool = λ b. ltb b label in
    let len = length-map parsed_insns (λ d. d.start) in
    prefix_len_is test (begins_of parsed_insns) index 0 (omega (arith, len))
    (λ k lt. ap test (get_or-map (λ (d : NumberedInsn). d.start) parsed_insns k d 0 (omega arith))
    ∙ point.0 k d (omega arith) lt)
    (λ lt. ap test (get_or-map (λ (d : NumberedInsn). d.start) parsed_insns index d 0 (omega (arith, len)))
    ∙ point.1 index d (omega arith) (omega (arith, len)))

pub found_index : (text labels name begins : List ℕ) (i index : ℕ) → i < length labels
    → IsDistinct bytes_eq (map (name_at text) labels)
    → slice_cmp nat_cmp (name_at text (get_or labels i 0)) name ≡ Equal
    → prefix_len (λ b. ltb b (get_or labels i 0)) begins ≡ index
    → Some index ≡ index_of (labels_at text begins labels) name
found_index text labels name begins i index within apart equal count =
    let es = labels_at text begins labels in
    let same = same_text (name_at text (get_or labels i 0)) name
    (sym (is_eq-slice_cmp (name_at text (get_or labels i 0)) name) ∙ ap is_eq equal) in
    let entry : ℕ → List ℕ × ℕ = λ s. (name_at text s, prefix_len (λ b. ltb b s) begins) in
    let inside : i < length es = omega (arith, length-map labels entry) in
    let at = get_or-map entry labels i 0 (name, index) within in
    sym (lookup-from_Contains nat_list_eq_equiv name index es (rw names_of apart)
    (i, inside, at ∙ rw (same, count) refl))

none_there : (text labels begins name : List ℕ)
    → All (λ l. is_eq (slice_cmp nat_cmp (name_at text l) name) ≡ false) labels
    → index_of (labels_at text begins labels) name ≡ None
none_there text [] begins name others = refl
none_there text (l ∷ labels) begins name others =
    let here : bytes_eq name (name_at text l) ≡ false =
    bytes_eq_sym name (name_at text l) ∙ sym (is_eq-slice_cmp (name_at text l) name)
    ∙ All-head (λ l. is_eq (slice_cmp nat_cmp (name_at text l) name) ≡ false) l labels others in
    rw here (none_there text labels begins name
    (All-tail (λ l. is_eq (slice_cmp nat_cmp (name_at text l) name) ≡ false) l labels others))

pub no_index : (text labels begins name : List ℕ) (i : ℕ)
    → IsPartitionPoint (λ l. slice_cmp nat_cmp (name_at text l) name ≡ Less)
    (λ l. slice_cmp nat_cmp (name_at text l) name ≡ Greater) labels i
    → index_of (labels_at text begins labels) name ≡ None
no_index text labels begins name i h = grind (arith, common_steps, nat_tests, none_there, cases_lt)
