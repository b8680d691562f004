-- What a store knows at a level: what it saved at that mark or, past the last one, what it knows now.
use Rattle.scf_facts.proofs.Common.{◌≡◌, ◌<◌, ℕ, List, [], ◌∷◌, ◌++◌, length, arith, common_steps, cases_lt, get_or, get_or_past, get_or_default}

pub now : {A : Type 0} (saved : List A) (known : A) → get_or saved (length saved) known ≡ known
now saved known = get_or_past saved (length saved) known (omega arith)

-- a mark that is opened leaves the levels up to it
pub opened : {A B : Type 0} (items : A → B) (saved : List A) (known copy : A) (index : ℕ) → items copy ≡ items known
    → items (get_or (saved ++ copy ∷ []) index known) ≡ items (get_or saved index known)
opened items saved known copy index e =
    grind (arith, common_steps, get_or_past, get_or_default, cases_lt index (length saved))

-- a mark that is closed, where what was saved at it is known again
pub closed : {A : Type 0} (saved rest : List A) (known last : A) (index : ℕ) → saved ≡ rest ++ last ∷ []
    → index < length saved → get_or rest index last ≡ get_or saved index known
closed saved rest known last index same lt =
    rw same (grind (arith, common_steps, get_or_past, get_or_default, cases_lt index (length rest), rw same at lt))
