-- A fault by default is none.
use Rattle.std.proofs.Common.{◌≡◌, ◌∙◌, ℕ, List, [], ◌∷◌, ap}
use Rattle.std.proofs.lemmas.List.FromFn.{fill_by_all}
use Rattle.std.specs.Array.{AllOfLen}
use Rattle.scf_c.specs.Endings.{no_fault}
use Rattle.scf_c.specs.declared.layout.Fault.{Fault}

abbrev fault_of_fields : ℕ → ℕ → List ℕ → List ℕ → Fault
fault_of_fields source kind numbers reserved =
    record { source = source; kind = kind; numbers = numbers; reserved = reserved }

pub default_is_none : (IsZero : ℕ → Type 0) → ((n : ℕ) → IsZero n → n ≡ 0) → (fault : Fault)
    → (fault.source ≡ 0) × ((fault.kind ≡ 0) × (AllOfLen IsZero fault.numbers 3 × AllOfLen IsZero fault.reserved 4))
    → fault ≡ no_fault
default_is_none IsZero zero fault is =
    let numbers : fault.numbers ≡ 0 ∷ 0 ∷ 0 ∷ [] =
    fill_by_all (λ (k : ℕ). 0) fault.numbers 3 0 is.1.1.0.long (λ k lt. zero _ (is.1.1.0.at k 0 lt)) in
    let reserved : fault.reserved ≡ 0 ∷ 0 ∷ 0 ∷ 0 ∷ [] =
    fill_by_all (λ (k : ℕ). 0) fault.reserved 4 0 is.1.1.1.long (λ k lt. zero _ (is.1.1.1.at k 0 lt)) in
    ap (λ (source : ℕ). fault_of_fields source fault.kind fault.numbers fault.reserved) is.0
    ∙ ap (λ (kind : ℕ). fault_of_fields 0 kind fault.numbers fault.reserved) is.1.0
    ∙ ap (λ (numbers : List ℕ). fault_of_fields 0 0 numbers fault.reserved) numbers
    ∙ ap (λ (reserved : List ℕ). fault_of_fields 0 0 (0 ∷ 0 ∷ 0 ∷ []) reserved) reserved
