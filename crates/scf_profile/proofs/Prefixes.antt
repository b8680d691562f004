-- Texts are in the order of their prefixes, where these differ.
use Rattle.scf_profile.proofs.Common.{common_steps, ◌≡◌, ℕ, zero, suc, ◌+◌, ◌<◌, ◌≤◌, List, [], ◌∷◌, get_or, refl, sym, arith, nat_tests, Less, slice_cmp, cases_order, inl, inr, ap, ◌∙◌, nat_list_cmp_total}
use Rattle.std.specs.Prelude.{◌*◌}
use Rattle.std.proofs.Common.{nat_cmp}
use Rattle.std.specs.Ordering.{ordering_reverse}
use Rattle.std.specs.declared.cmp.Ordering.TheVariants.{Greater}
use Rattle.scf_profile.specs.internal.Prefixes.{IsPrefixOf, with_bytes}

abbrev AreBytes : ℕ → ℕ → List ℕ → Type 0
AreBytes count index text = (i : ℕ) → index ≤ i → i < index + count → get_or text i 0 < 256

-- a lesser number stays less whatever bytes stand behind it
less_before : (count index v w : ℕ) (xs ys : List ℕ) → AreBytes count index xs → v < w
    → with_bytes count index v xs < with_bytes count index w ys
less_before zero index v w xs ys bytes less = less
less_before (suc count) index v w xs ys bytes less =
    let byte = bytes index (omega arith) (omega arith) in
    less_before count (suc index) _ _ xs ys (λ i from below. bytes i (omega arith) (omega arith)) (omega (arith, byte))

-- bytes behind the first one
behind : (count index v x : ℕ) (xs : List ℕ) → with_bytes count (suc index) v (x ∷ xs) ≡ with_bytes count index v xs
behind zero index v x xs = refl
behind (suc count) index v x xs = behind count (suc index) _ x xs

-- an empty text is the least
nothing_least : (count index v w : ℕ) (ys : List ℕ) → v ≤ w
    → with_bytes count index v [] ≤ with_bytes count index w ys
nothing_least zero index v w ys most = most
nothing_least (suc count) index v w ys most = nothing_least count (suc index) _ _ ys (omega arith)

tail_bytes : (count x : ℕ) (xs : List ℕ) → AreBytes (suc count) 0 (x ∷ xs) → AreBytes count 0 xs
tail_bytes count x xs bytes i from below = bytes (suc i) (omega arith) (omega arith)

-- the order of texts is that of the numbers with their bytes behind, where these differ
pub ordered_by_bytes : (count v : ℕ) (xs ys : List ℕ) → AreBytes count 0 xs → AreBytes count 0 ys
    → with_bytes count 0 v xs < with_bytes count 0 v ys → slice_cmp nat_cmp xs ys ≡ Less
ordered_by_bytes zero v xs ys bx by less = absurd (omega (arith, less))
ordered_by_bytes (suc count) v [] [] bx by less = absurd (omega (arith, less))
ordered_by_bytes (suc count) v [] (y ∷ ys) bx by less = refl
ordered_by_bytes (suc count) v (x ∷ xs) [] bx by less = grind (arith, common_steps, nat_tests, nothing_least)
ordered_by_bytes (suc count) v (x ∷ xs) (y ∷ ys) bx by less =
    let tails = rw (behind count 0 (v * 256 + x) x xs, behind count 0 (v * 256 + y) y ys) at less in
    elim (cases_order x y) [
      | inl same ↦
          let more = ordered_by_bytes count (v * 256 + x) xs ys (tail_bytes count x xs bx) (tail_bytes count y ys by)
          (rw (sym same) at tails) in
          rw (same, more) (grind (arith, nat_tests))
      | inr (inl before) ↦ grind (arith, nat_tests)
      | inr (inr after) ↦
          let reversed = less_before count 0 (v * 256 + y) (v * 256 + x) ys xs (tail_bytes count y ys by) (omega arith) in
          absurd (omega (arith, tails, reversed))
    ]

-- the same of texts and their prefixes
pub ordered_by_prefix : (xs ys : List ℕ) (p q : ℕ) → IsPrefixOf xs p → IsPrefixOf ys q → p < q
    → slice_cmp nat_cmp xs ys ≡ Less
ordered_by_prefix xs ys p q of_xs of_ys less =
    ordered_by_bytes 8 0 xs ys (λ i from below. of_xs.bytes i (omega arith)) (λ i from below. of_ys.bytes i (omega arith))
    (rw (of_xs.number, of_ys.number) at less)

pub ordered_after : (xs ys : List ℕ) (p q : ℕ) → IsPrefixOf xs p → IsPrefixOf ys q → q < p
    → slice_cmp nat_cmp xs ys ≡ Greater
ordered_after xs ys p q of_xs of_ys more =
    nat_list_cmp_total.antisymm xs ys ∙ ap ordering_reverse (ordered_by_prefix ys xs q p of_ys of_xs more)
