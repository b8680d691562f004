-- What holds of the forms of all codes holds of the form of an instruction; reading by the forms in turn.
use Rattle.scf_text.proofs.Common.{◌≡◌, ℕ, Bool, ◌||◌, true, arith, nat_tests, List, [], ◌∷◌, Option, unwrap_or, AllByRecursion, list_any, find, cases_Bool, Insn, known_encodings, encodings, raw, tells_all, encoding_for, has_mnemonic, read_by}
use Rattle.scf_text.specs.Encodings as spec
use Rattle.std.proofs.lemmas.Grind.{common_steps}

-- what holds of each form, and of the first one that passes or of another one, if it passes
found_one : (p : spec.Encoding → Bool) (P Q : spec.Encoding → Type 0) (fs : List spec.Encoding) (f : spec.Encoding)
    → AllByRecursion P fs → ((g : spec.Encoding) → P g → p g ≡ true → Q g) → Q f → Q (unwrap_or (find p fs) f)
found_one p P Q [] f all first other = other
found_one p P Q (g ∷ fs) f all first other =
    grind (arith, common_steps, nat_tests, cases_Bool, found_one p P Q fs f all.1 first other)

-- of the form in which an instruction is listed
pub listed_one : (P Q : spec.Encoding → Type 0) (i : Insn) → AllByRecursion P encodings
    → ((f : spec.Encoding) → P f → tells_all i f ≡ true → Q f) → Q raw → Q (encoding_for i)
unfolding encoding_for
listed_one P Q i all tells other = found_one (tells_all i) P Q known_encodings raw all.1 tells other

pub listed_form : (P : spec.Encoding → Type 0) (i : Insn) → AllByRecursion P encodings → P (encoding_for i)
listed_form P i all = listed_one P P i all (λ f holds _. holds) all.0

-- ---- reading by the forms in turn

module _ (number : List ℕ → Option ℕ) (t : List ℕ) (ts : List (List ℕ)) where
  -- no form so far has read the tokens; it is known whether one had the mnemonic
  pub record IsUnread (fs remaining : List spec.Encoding) (is_known : Bool) : Type 0 where
    pub known : list_any (has_mnemonic t) fs ≡ (is_known || list_any (has_mnemonic t) remaining)
    pub read : read_by number fs t ts ≡ read_by number remaining t ts
