-- The distinct numbers of rules.
use Rattle.scf_profile.proofs.Common.{common_steps, nat_tests, ◌≡◌, ℕ, zero, suc, ◌<◌, Bool, true, not, eqb, ◌⊎◌, List, [], ◌∷◌, refl, sym, arith, inl, inr, Contains, filter, cases_eq, cases_Bool, ne_eqb, not_from_false, Contains-append_right, Rule, numbers_of, rules_of}

-- an element that passes a test is among those that do
pub contains_filtered : {A : Type 0} (p : A → Bool) (xs : List A) (x : A) → p x ≡ true → Contains xs x
    → Contains (filter p xs) x
contains_filtered p [] x passes h = absurd (let lt : h.0 < 0 = h.1 in omega arith)
contains_filtered p (y ∷ ys) x passes (zero, lt, e) = grind (arith, common_steps, nat_tests)
contains_filtered p (y ∷ ys) x passes (suc k, lt, e) =
    let later = contains_filtered p ys x passes (k, omega arith, e) in
    elim (cases_Bool (p y)) [
      | inl passes ↦ rw passes (Contains-append_right (y ∷ []) (filter p ys) x later)
      | inr dropped ↦ rw dropped later
    ]

-- the number is that of a rule, or no rule has it
pub number_there : (nr : ℕ) (rs : List Rule) → Contains (numbers_of rs) nr ⊎ (rules_of nr rs ≡ [])
number_there nr [] = inr refl
number_there nr (r ∷ rs) =
    elim (cases_eq r.number nr) [
      | inl same ↦ inl (0, omega arith, same)
      | inr apart ↦ elim (number_there nr rs) [
        | inl later ↦ inl (Contains-append_right (r.number ∷ []) _ nr
            (contains_filtered (λ number. not (eqb number r.number)) (numbers_of rs) nr
            (not_from_false _ (ne_eqb nr r.number (λ e. apart (sym e)))) later))
        | inr none ↦ inr (rw (ne_eqb r.number nr apart) none)
      ]
    ]
