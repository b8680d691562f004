-- Indices in a list with one more at its end.
use Rattle.scf_machine.proofs.Common.{◌≡◌, ℕ, zero, suc, ◌<◌, ◌⊎◌, inl, inr, List, [], ◌∷◌, ◌++◌, Some, ap, arith, length, refl, slice_get}

pub index_cases : {X : Type 0} (xs : List X) (x : X) (k : ℕ) (y : X) → slice_get (xs ++ x ∷ []) k ≡ Some y
    → ((k < length xs) × (slice_get xs k ≡ Some y)) ⊎ ((k ≡ length xs) × (x ≡ y))
index_cases [] x zero y e = inr (refl, cc)
index_cases [] x (suc k) y e = cc
index_cases (a ∷ xs) x zero y e = inl (omega arith, e)
index_cases (a ∷ xs) x (suc k) y e =
    elim (index_cases xs x k y e) [ inl h ↦ inl (omega arith, h.1) | inr h ↦ inr (ap suc h.0, h.1) ]

pub index_before : {X : Type 0} (xs : List X) (x : X) (k : ℕ) (y : X) → slice_get xs k ≡ Some y
    → slice_get (xs ++ x ∷ []) k ≡ Some y
index_before [] x k y e = cc
index_before (a ∷ xs) x zero y e = e
index_before (a ∷ xs) x (suc k) y e = index_before xs x k y e

pub index_last : {X : Type 0} (xs : List X) (x : X) → slice_get (xs ++ x ∷ []) (length xs) ≡ Some x
index_last [] x = refl
index_last (a ∷ xs) x = index_last xs x
