-- What a store of facts says at its levels: at each open mark, and now.
use Rattle.std.specs.Prelude.{◌≡◌, ◌↔◌, ℕ, List, Bool}

-- at one level of a store and one of another the same lists are allowed, both are exact or neither is, and both refute
-- under bits of the same masks
abbrev pub IsSameLevel : {S : Type 0} → (S → ℕ → List ℕ → Type 0) → (S → ℕ → Bool) → (S → ℕ → ℕ → Type 0)
    → S → ℕ → S → ℕ → Type 0
IsSameLevel allows is_exact refutes_among old i new j =
    ((words : List ℕ) → allows new j words ↔ allows old i words) × (is_exact new j ≡ is_exact old i)
    × ((masks : ℕ) → refutes_among new j masks ↔ refutes_among old i masks)
