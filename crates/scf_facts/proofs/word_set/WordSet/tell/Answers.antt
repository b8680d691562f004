use Rattle.scf_facts.proofs.Common.{◌≡◌, ◌<◌, ◌^◌, ◌↔◌, ℕ, Bool, true, false, refl, rules, Atom, Interval, LiesIn, NumberFacts, SomeNumber, answer_at, common_steps, arith}
use Rattle.scf_facts.proofs.word_set.WordSet.tell.Goals as goal

is_true : (asked : Bool) → (asked ≡ false → ⊥) → asked ≡ true
is_true true isnt = refl
is_true false isnt = absurd (isnt refl)

is_false : (asked : Bool) → (asked ≡ true → ⊥) → asked ≡ false
is_false true isnt = absurd (isnt refl)
is_false false isnt = refl

-- a number in the range and one outside it have both answers
both_answers : (facts : NumberFacts) (atom : Atom) (range : Interval) (answer : Bool)
    → ((x : ℕ) → x < 2 ^ 32 → LiesIn range x ↔ (answer_at atom x ≡ answer))
    → SomeNumber facts (LiesIn range) → SomeNumber facts (λ x. LiesIn range x → ⊥)
    → SomeNumber facts (λ x. answer_at atom x ≡ true) × SomeNumber facts (λ x. answer_at atom x ≡ false)
both_answers facts atom range true says (x, fits, allowed, lies) (y, also, too, beyond) =
    grind (arith, common_steps, says, beyond, is_false)
both_answers facts atom range false says (x, fits, allowed, lies) (y, also, too, beyond) = (
  (y, also, too, is_true _ (λ is. beyond ((says y also).1 is))),
  (x, fits, allowed, (says x fits).0 lies),
)

pub returns-else-has_none_outside-clause-both : goal.returns-else-has_none_outside-clause-both
returns-else-has_none_outside-clause-both c = λ maybe exact.
    let facts = c.args.self.now in
    let range = c.in-Within.range in
    let within : SomeNumber facts (LiesIn range) = search rules in
    both_answers facts c.args.atom range c.in-Within.answer c.in-Within.ensures.asks.1 within
    (c.has_none_outside.ensures.some c.if-has_none_outside.false exact)
