use Rattle.scf_facts.proofs.Common.{◌≡◌, ◌+◌, ◌<◌, ◌^◌, ℕ, List, inl, inr, length, get_or, arith, cases_eq, get_or_read, IsTrue, NumberFacts, AllowsNumber, AllPass-from_list_all, is_exact_set}
use Rattle.scf_facts.proofs.StoreLaws.{each_word, read, refutes_at, some_allowed}
use Rattle.scf_facts.specs.Masks.{RefutesAmong}
use Rattle.scf_facts.proofs.snapshot.Snapshot.is_empty.Goals as goal

-- what each word before one has, and this one too
up_to : (sets : List NumberFacts) (at : ℕ) (set : NumberFacts) (P : NumberFacts → Type 0) → at < length sets
    → set ≡ get_or sets at set → P set → ((k : ℕ) (d : NumberFacts) → k < at → P (get_or sets k d))
    → (k : ℕ) (d : NumberFacts) → k < at + 1 → P (get_or sets k d)
up_to sets at set P lt read here before k d less = elim (cases_eq k at) [
  | inl e ↦ rw (e, ← get_or_read sets at set lt read d) here
  | inr differs ↦ before k d (omega (arith, less, differs))
]

pub loop-index-preserved : goal.loop-index-preserved
loop-index-preserved c =
    let at = c.loop-index.index in
    let known = read c.args.self.now at _ c.word.ensures.word in
    let so_far = c.loop-index.invariant in
    record {
      sixteen = λ _. c.word.ensures.sixteen;
      seen = up_to _ at _ (λ s. IsTrue (is_exact_set s) → (x : ℕ) × (x < 2 ^ 32) × AllowsNumber s x) known.0 known.1
          (λ exact. c.is_empty.ensures.some exact c.if-is_empty.false) so_far.seen;
      seen_among = λ masks few.
          up_to _ at _ (λ s. RefutesAmong masks s → (x : ℕ) × (x < 2 ^ 32) × AllowsNumber s x) known.0 known.1
          (λ among. c.is_empty.ensures.some_among masks few among c.if-is_empty.false) (so_far.seen_among masks few);
    }

pub returns-then-is_empty-clause-empty : goal.returns-then-is_empty-clause-empty
returns-then-is_empty-clause-empty c = λ yes words h.
    let known = read c.args.self.now c.loop-index.index _ c.word.ensures.word in
    each_word _ _ _ known.0 known.1 (λ _. ⊥) (c.is_empty.ensures.empty c.if-is_empty.true) words h

pub returns-clause-seen : goal.returns-clause-seen
returns-clause-seen c = λ exact none.
    let sets = c.args.self.now in
    let so_far = c.loop-index.invariant in
    let sixteen = so_far.sixteen (omega arith) in
    absurd (some_allowed sets sixteen (λ k d lt.
    so_far.seen k d (omega (arith, lt, sixteen)) (AllPass-from_list_all is_exact_set sets exact k d lt)) none)

pub returns-clause-seen_among : goal.returns-clause-seen_among
returns-clause-seen_among c = λ masks few among none.
    let sets = c.args.self.now in
    let so_far = c.loop-index.invariant in
    let sixteen = so_far.sixteen (omega arith) in
    absurd (some_allowed sets sixteen (λ k d lt.
    so_far.seen_among masks few k d (omega (arith, lt, sixteen)) (refutes_at sets masks among k d lt)) none)
