-- A binary search among entries in the order of their names finds what the map has.
use Rattle.scf_profile.proofs.Common.{◌≡◌, ℕ, ◌<◌, ◌≤◌, List, None, Some, refl, sym, ap, subst, ◌∙◌, arith, get, get_or, get_or-map, length, length-map, slice_cmp, keys_of, nat_list_cmp_total, eq_by_cmp_equiv, exact_bytes, Less, inl, inr, cases_order, IsDistinct-from_sorted, AreSorted, names_of, suc, nat_tests, common_steps}
use Rattle.std.proofs.Common.{nat_cmp}
use Rattle.std.specs.declared.cmp.Ordering.TheVariants.{Equal, Greater}
use Rattle.std.specs.Ordering.{ordering_reverse}
use Rattle.std.specs.List.{slice_get}
use Rattle.std.proofs.lemmas.Map.Keys.{Less-from_sorted}
use Rattle.std.proofs.lemmas.Map.Entries.{lookup_at_gap, lookup_from_place}
use Rattle.std.proofs.lemmas.Option.{get_or_from_slice_get, slice_get_read, slice_get_within}
use Rattle.scf_profile.proofs.NamesOf.{get_named}

-- the entries before an index have names below q
abbrev pub AreBelow : List (List ℕ × ℕ) → List ℕ → ℕ → Type 0
AreBelow es q low = (j : ℕ) (e : List ℕ × ℕ) → j < low → slice_get es j ≡ Some e → slice_cmp nat_cmp q e.0 ≡ Greater

-- the entries from an index on have names above q
abbrev pub AreAbove : List (List ℕ × ℕ) → List ℕ → ℕ → Type 0
AreAbove es q high = (j : ℕ) (e : List ℕ × ℕ) → high ≤ j → slice_get es j ≡ Some e → slice_cmp nat_cmp q e.0 ≡ Less

turned : (x y : List ℕ) → slice_cmp nat_cmp x y ≡ Greater → slice_cmp nat_cmp y x ≡ Less
turned x y more = nat_list_cmp_total.antisymm y x ∙ ap ordering_reverse more

module _ (es : List (List ℕ × ℕ)) (sorted : AreSorted es) where
  rising : (j k : ℕ) (e f : List ℕ × ℕ) → j < k → slice_get es j ≡ Some e → slice_get es k ≡ Some f
      → slice_cmp nat_cmp e.0 f.0 ≡ Less
  rising j k e f before first second =
      let inside = slice_get_within es k f second in
      let less = Less-from_sorted (slice_cmp nat_cmp) (keys_of es) j k e.0 sorted before
      (omega (arith, inside, length-map es (λ (x : List ℕ × ℕ). x.0))) in
      let named = λ (i : ℕ) (x : List ℕ × ℕ) (there : slice_get es i ≡ Some x).
      get_or-map (λ (x : List ℕ × ℕ). x.0) es i e e.0 (slice_get_within es i x there)
      ∙ ap (λ (x : List ℕ × ℕ). x.0) (get_or_from_slice_get es i x e there) in
      rw (named j e first, named k f second) at less

  module _ (q : List ℕ) (m : ℕ) (middle : List ℕ × ℕ) (inside : m < length es) (is : middle ≡ get_or es m middle) where
    there : slice_get es m ≡ Some middle
    there = slice_get_read es (length es) m middle refl inside is

    same_entry : (j : ℕ) (e : List ℕ × ℕ) → m ≡ j → slice_get es j ≡ Some e → middle ≡ e
    same_entry j e same at = grind (arith, common_steps, nat_tests, get_or_from_slice_get, there)

    -- where the name of an entry is above q, so are those behind it
    pub above_from : slice_cmp nat_cmp q middle.0 ≡ Less → AreAbove es q m
    above_from less j e from at = elim (cases_order m j) [
      | inl same ↦ subst (λ (x : List ℕ × ℕ). slice_cmp nat_cmp q x.0 ≡ Less) (same_entry j e same at) less
      | inr (inl before) ↦ nat_list_cmp_total.trans q middle.0 e.0 less (rising m j middle e before there at)
      | inr (inr behind) ↦ absurd (omega (arith, from, behind))
    ]

    -- where it is below q, so are those before it
    pub below_to : slice_cmp nat_cmp q middle.0 ≡ Greater → AreBelow es q (suc m)
    below_to more j e before at = elim (cases_order j m) [
      | inl same ↦ subst (λ (x : List ℕ × ℕ). slice_cmp nat_cmp q x.0 ≡ Greater) (same_entry j e (sym same) at) more
      | inr (inl less) ↦ nat_list_cmp_total.antisymm q e.0 ∙ ap ordering_reverse (nat_list_cmp_total.trans e.0 middle.0 q
          (rising j m e middle less at there) (turned q middle.0 more))
      | inr (inr behind) ↦ absurd (omega (arith, before, behind))
    ]

    -- the map has the number of an entry with the name
    pub found : slice_cmp nat_cmp q middle.0 ≡ Equal → get (names_of es) q ≡ Some middle.1
    found equal =
        let distinct = IsDistinct-from_sorted (slice_cmp nat_cmp) (keys_of es) sorted in
        get_named es q ∙ lookup_from_place (eq_by_cmp_equiv nat_list_cmp_total) es m q middle.1 distinct
        (there ∙ ap (λ (k : List ℕ). Some (k, middle.1)) (sym (exact_bytes q middle.0 equal)))

  -- the map has no number where the entries' names are below and above
  pub absent : (q : List ℕ) (low high : ℕ) → AreBelow es q low → AreAbove es q high → high ≤ low
      → get (names_of es) q ≡ None
  absent q low high below above met =
      get_named es q ∙ lookup_at_gap nat_list_cmp_total q es low sorted below (λ e there. above low e met there)
