-- Sorted labels, and the first that has the name of an earlier one.
use Rattle.scf_text.proofs.Common.{◌≡◌, ◌≢◌, ◌⊎◌, ℕ, ◌+◌, ◌-◌, ◌<◌, ◌≤◌, Bool, true, false, List, length, length-take-le, get_or, get_or-take, get_or_default, take, take_more, Decides, Option, Some, None, refl, sym, ap, ◌∙◌, min, arith, inl, inr, IsDistinct, IsPermutation, IsSortedBy, bytes_eq-Decides, slice_cmp, nat_cmp, nat_tests, cases_lt, IsTotalOrder, Ordering, is_lt, is_eq, ordering_then, ordering_reverse, nat_list_cmp_total, nat_cmp_total, on_total, then_total, ranks_by, sorted_far, is_eq-slice_cmp, apart_from_distinct, Contains-append_left, Contains-permutation, Contains-push, Contains-push_cases, Contains, MatchBool, cond, [], ◌∷◌, ◌++◌, IsPermutation-sym, nat_eq, unwrap_or, All, option_or, cases_Bool, name_at, compared, is_before, IsRepeat, IsFirstRepeat, least}
use Rattle.std.proofs.lemmas.Grind.{common_steps}

pub compared_total : (text : List ℕ) → IsTotalOrder (compared text)
compared_total text = then_total (on_total (name_at text) nat_list_cmp_total) nat_cmp_total

pub word_decides : (r : Ordering) (b : Bool) (xs ys : List ℕ) → r ≡ slice_cmp nat_cmp xs ys → b ≡ is_eq r
    → Decides b (xs ≡ ys)
word_decides r b xs ys e f = grind (arith, common_steps, nat_tests, is_eq-slice_cmp, bytes_eq-Decides)

not_less : (x y : ℕ) → is_lt (nat_cmp x y) ≡ false → y ≤ x
not_less x y h = grind (arith, common_steps, nat_tests, cases_lt)

-- what stands between two words that are the same
between : (r s : Ordering) (a c b : ℕ) → s ≡ ordering_reverse r → is_lt (ordering_then r (nat_cmp c a)) ≡ false
    → is_lt (ordering_then s (nat_cmp b c)) ≡ false → (is_eq r ≡ true) × (a ≤ c) × (c ≤ b)
between r s a c b h h2 h3 = grind (arith, common_steps, nat_tests, not_less)

-- the first repeat doesn't depend on the order

pub moved : {text xs ys : List ℕ} {b : ℕ} → IsPermutation xs ys → IsRepeat text xs b → IsRepeat text ys b
moved {text} {xs} {ys} {b} p r = record {
  given = Contains-permutation xs ys b p r.given;
  earlier = r.earlier;
  given_before = Contains-permutation xs ys r.earlier p r.given_before;
  before = r.before;
  same = r.same;
}

pub one_first : (text xs ys : List ℕ) (o p : Option ℕ) → IsPermutation xs ys → IsFirstRepeat text xs o
    → IsFirstRepeat text ys p → o ≡ p
one_first text xs ys None None m h k = refl
one_first text xs ys None (Some r) m h k = absurd (h r (moved (IsPermutation-sym xs ys m) k.0))
one_first text xs ys (Some q) None m h k = absurd (k q (moved m h.0))
one_first text xs ys (Some q) (Some r) m h k =
    let le : q ≤ r = h.1 r (moved (IsPermutation-sym xs ys m) k.0) in
    let ge : r ≤ q = k.1 q (moved m h.0) in
    let e : q ≡ r = omega arith in
    ap Some e

-- one more label, behind the others

-- some label has the name of this one, or none has
abbrev pub IsKnown : List ℕ → List ℕ → ℕ → Bool → Type 0
IsKnown text xs s known =
    MatchBool known ((a : ℕ) × Contains xs a × (name_at text a ≡ name_at text s))
    ((a : ℕ) → Contains xs a → name_at text a ≢ name_at text s)

module _ (text xs : List ℕ) (s : ℕ) (behind : (a : ℕ) → Contains xs a → name_at text a ≡ name_at text s → a < s) where
  kept : (b : ℕ) → IsRepeat text xs b → IsRepeat text (xs ++ s ∷ []) b
  kept b r = record {
    given = Contains-append_left xs (s ∷ []) b r.given;
    earlier = r.earlier;
    given_before = Contains-append_left xs (s ∷ []) r.earlier r.given_before;
    before = r.before;
    same = r.same;
  }

  -- a repeat was one before, or it is this label
  new_or_kept : (b : ℕ) → IsRepeat text (xs ++ s ∷ []) b
      → IsRepeat text xs b ⊎ ((b ≡ s) × (a : ℕ) × Contains xs a × (name_at text a ≡ name_at text s))
  new_or_kept b r =
      let less : r.earlier < b = r.before in
      elim (Contains-push_cases xs s r.earlier r.given_before) [
        | inl before ↦
            elim (Contains-push_cases xs s b r.given) [
              | inl given ↦ inl (record {
                given = given;
                earlier = r.earlier;
                given_before = before;
                before = less;
                same = r.same;
              })
              | inr e ↦ inr (sym e, r.earlier, before, r.same ∙ ap (name_at text) (sym e))
            ]
        | inr e ↦
            elim (Contains-push_cases xs s b r.given) [
              | inl given ↦
                  let lt : b < s = behind b given (sym r.same ∙ ap (name_at text) (sym e)) in absurd (omega arith)
              | inr f ↦ absurd (omega arith)
            ]
      ]

  first_repeated : (first : Option ℕ) → IsFirstRepeat text xs first
      → IsRepeat text (xs ++ s ∷ []) s → IsFirstRepeat text (xs ++ s ∷ []) (Some (least first s))
  first_repeated None k new = (
    new,
    λ b repeat. elim (new_or_kept b repeat) [ inl before ↦ absurd (k b before) | inr one ↦ omega (arith, one.0) ],
  )
  first_repeated (Some r) k new = (
    elim (cases_lt r s) [
      | inl less ↦ let e : min r s ≡ r = omega arith in rw e (kept r k.0)
      | inr le ↦ let e : min r s ≡ s = omega arith in rw e new
    ],
    λ b repeat. elim (new_or_kept b repeat) [
      | inl before ↦ let le : r ≤ b = k.1 b before in omega arith
      | inr one ↦ omega (arith, one.0)
    ],
  )

  pub first_more : (first : Option ℕ) (known : Bool) → IsKnown text xs s known → IsFirstRepeat text xs first
      → IsFirstRepeat text (xs ++ s ∷ []) (cond known (Some (least first s)) first)
  first_more first true h k = first_repeated first k (record {
    given = Contains-push xs s;
    earlier = h.0;
    given_before = Contains-append_left xs (s ∷ []) h.0 h.1;
    before = behind h.0 h.1 h.2;
    same = h.2;
  })
  first_more None false h k = λ b repeat.
      elim (new_or_kept b repeat) [ inl before ↦ k b before | inr new ↦ h new.1 new.2 new.3 ]
  first_more (Some r) false h k = (
    kept r k.0,
    λ b repeat. elim (new_or_kept b repeat) [ inl before ↦ k.1 b before | inr new ↦ absurd (h new.1 new.2 new.3) ],
  )

-- labels in order, one by one

pub one_label : (text labels : List ℕ) → IsFirstRepeat text (take 1 labels) None
one_label text labels = grind (arith, common_steps, nat_tests, first_more)

module _ (text labels : List ℕ) (sorted : IsSortedBy (is_before text) labels) where
  far : (i j : ℕ) → i ≤ j → j < length labels → is_before text (get_or labels j 0) (get_or labels i 0) ≡ false
  far i j le within =
      sorted_far (is_before text) (ranks_by (compared_total text) (λ (x : ℕ). x)) labels sorted i j 0 le within

  sandwich : (i k j : ℕ) → i ≤ k → k ≤ j → j < length labels
      → name_at text (get_or labels i 0) ≡ name_at text (get_or labels j 0)
      → (name_at text (get_or labels i 0) ≡ name_at text (get_or labels k 0))
      × (get_or labels i 0 ≤ get_or labels k 0)
  sandwich i k j le ge within same =
      let a = get_or labels i 0 in
      let c = get_or labels k 0 in
      let b = get_or labels j 0 in
      let r = slice_cmp nat_cmp (name_at text c) (name_at text a) in
      let turned : slice_cmp nat_cmp (name_at text b) (name_at text c) ≡ ordering_reverse r =
      ap (λ (w : List ℕ). slice_cmp nat_cmp w (name_at text c)) (sym same)
      ∙ nat_list_cmp_total.antisymm (name_at text a) (name_at text c) in
      let all = between r (slice_cmp nat_cmp (name_at text b) (name_at text c)) a c b turned
      (far i k le (omega arith)) (far k j ge within) in
      (sym ((word_decides r (is_eq r) (name_at text c) (name_at text a) refl refl).0 all.0), all.1)

  pub label_looked : (i : ℕ) (first : Option ℕ) (known : Bool) → IsDistinct nat_eq labels → 0 < i → i < length labels
      → Decides known (name_at text (get_or labels (i - 1) 0) ≡ name_at text (get_or labels i 0))
      → IsFirstRepeat text (take i labels) first
      → IsFirstRepeat text (take (i + 1) labels) (cond known (Some (least first (get_or labels i 0))) first)
  label_looked i first known apart some within decides k =
      let front : length (take i labels) ≡ i = length-take-le i labels (omega arith) in
      let at : (a : ℕ) → Contains (take i labels) a → (j : ℕ) × (j < i) × (get_or labels j 0 ≡ a) = λ a given.
      let lt : given.0 < i = omega (arith, given.1) in (
        given.0,
        lt,
        get_or_default labels given.0 0 a (omega arith) ∙ sym (get_or-take i labels given.0 a lt) ∙ given.2,
      ) in
      rw (take_more labels i 0 within)
      (first_more text (take i labels) (get_or labels i 0)
      (λ a given same.
      let j = at a given in
      let lt : j.0 < i = j.1 in
      let le : get_or labels j.0 0 ≤ get_or labels i 0 =
      (sandwich j.0 i i (omega arith) (omega arith) within (rw j.2 same)).1 in
      let other = apart_from_distinct nat_eq labels j.0 i 0 apart lt within in
      rw j.2 at (let less : get_or labels j.0 0 < get_or labels i 0 = grind (arith, nat_tests) in less))
      first known
      (elim (cases_Bool known) [
        | inl t ↦ rw t (
          get_or labels (i - 1) 0,
          (
            i - 1,
            omega arith,
            get_or-take i labels (i - 1) (get_or labels (i - 1) 0) (omega arith)
                ∙ get_or_default labels (i - 1) (get_or labels (i - 1) 0) 0 (omega arith),
          ),
          decides.0 t,
        )
        | inr f ↦ rw f (λ a given same.
            let j = at a given in
            let lt : j.0 < i = j.1 in
            let last = sandwich j.0 (i - 1) i (omega arith) (omega arith) within (rw j.2 same) in
            let t = decides.1 (sym last.0 ∙ rw j.2 same) in
            cc)
      ]) k)

pub least_is : (first : Option ℕ) (s m : ℕ) → m ≡ min (unwrap_or first s) s → m ≡ least first s
least_is first s m h = grind (arith, common_steps, nat_tests)

-- a label behind the others is no first repeat if there is one
pub least_last : (text xs : List ℕ) (s : ℕ) (first : Option ℕ) (known : Bool) → All (λ a. a < s) xs
    → IsFirstRepeat text xs first → cond known (Some (least first s)) first ≡ option_or first (cond known (Some s) None)
least_last text xs s first known h h2 = grind (arith, common_steps, nat_tests)
