use Rattle.scf_facts.proofs.Common.{◌≡◌, ◌<◌, ◌^◌, ℕ, AllowsNumber, refl, rules}
use Rattle.scf_facts.specs.declared.free_number.Searched.{Searched}
use Rattle.scf_facts.specs.declared.free_number.Searched.TheVariants.{Found, GaveUp, Nothing}
use Rattle.scf_facts.proofs.word_set.WordSet.is_empty.Goals as goal

-- a search that neither gave up nor found that there is nothing has found something
some_found : (result : Searched) (P : ℕ → Type 0) → (result ≡ Nothing → ⊥) → (result ≡ GaveUp → ⊥)
    → ((x : ℕ) → result ≡ Found x → P x) → (x : ℕ) × P x
some_found (Found x) P is ends found = (x, found x refl)
some_found Nothing P is ends found = absurd (is refl)
some_found GaveUp P is ends found = absurd (ends refl)

pub returns-in_default : goal.returns-in_default
returns-in_default c = record {
  empty = λ none. cc;
  some = search rules;
  some_among = λ masks few among none.
      let some = some_found c.free_number.result (λ x. (x < 2 ^ 32) × AllowsNumber c.args.self.now x) c.in_default.not-Nothing
      (c.free_number.ensures.ends masks few among)
      (λ x is. (c.free_number.ensures.fits x is, c.free_number.ensures.found x is)) in
      (some.0, some.1.0, some.1.1);
}
