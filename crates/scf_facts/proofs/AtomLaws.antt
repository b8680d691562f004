-- What is learned, as more is learned.
use Rattle.scf_facts.proofs.Common.{◌≡◌, ℕ, ◌<◌, ◌↔◌, List, [], ◌∷◌, ◌++◌, length, get_or, refl, sym, subst, arith, Some, All-push, All-pop, Learned, Holds, AllowsByLearned}

-- what was learned holds of the words that are allowed
pub holds : (learned items : List Learned) (k : ℕ) (known : Learned) (words : List ℕ) → AllowsByLearned learned words
    → items ≡ learned → known ≡ get_or items k known → k < length items → Holds known words
holds learned items k known words h same read lt =
    subst (λ k. Holds k words) (sym (rw same at read)) (h.all k known (rw same at lt))

pub allows_pushed : (learned : List Learned) (x : Learned) (words : List ℕ)
    → AllowsByLearned (learned ++ x ∷ []) words ↔ (AllowsByLearned learned words × Holds x words)
allows_pushed learned x words =
    let P : Learned → Type 0 = λ known. Holds known words in
    grind (arith, All-pop P (learned ++ x ∷ []) learned (Some x) refl, All-push P learned x)
