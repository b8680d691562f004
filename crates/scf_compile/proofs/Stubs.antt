-- The ranges of a profile: those of its rules are cut where its stub begins.
use Rattle.scf_compile.proofs.Common.{◌≡◌, ℕ, ◌+◌, ◌*◌, ◌≤◌, true, false, cond, ltb, not, List, [], ◌∷◌, Option, length, All, All-cons, All-contains, All-filter, refl, subst, arith, inl, inr, cases_Bool, cases_lt, lt-ltb, nat_tests, length-filter_both, sum_by-filter_both, sum_by, sum_by-cons, Answer, CallRecord, row_of, Rule, rules_of, Profile, is_stubbed, stub_answer, NrRange, AllRules, AreServed, AreRangesOf, ranges_below, first_answer, own_answer, number_count, range_bound, rule_bound, stub_count, common_steps}
use Rattle.scf_compile.proofs.Laying.{laid_few, laid_rules, laid_served, served_as}

-- ---- the ranges that begin below a number

module _ (default : Answer) (wanted : ℕ → List Rule) (start : ℕ) where
  none_below : (low high : ℕ) (ss : List NrRange) → AreServed default wanted low ss high → start ≤ low
      → ranges_below start ss ≡ []
  none_below low high [] served le = refl
  none_below low high (s ∷ ss) served le =
      let first = served.1.first in
      let past : ltb s.first start ≡ false = grind (arith, nat_tests) in
      rw past (none_below served.0 high ss served.2 (omega (arith, served.1.some)))

  -- serve the numbers below it
  served_below : (low high : ℕ) (ss : List NrRange) → AreServed default wanted low ss high → low ≤ start
      → start ≤ high → AreServed default wanted low (ranges_below start ss) start
  served_below low high [] served le lh = omega arith
  served_below low high (s ∷ ss) served le lh = elim (cases_lt low start) [
    | inr past ↦ let none = none_below low high (s ∷ ss) served past in rw none (omega arith)
    | inl lt ↦ rw (lt-ltb s.first start (omega (arith, served.1.first))) (elim (cases_lt start served.0) [
      | inr more ↦ (served.0, served.1, served_below served.0 high ss served.2 more lh)
      | inl within ↦
          let is = served.1 in (
            start,
            record { first = is.first; some = lt; stand = λ nr from below. is.stand nr from (omega arith) },
            rw (none_below served.0 high ss served.2 (omega arith)) refl,
          )
    ])
  ]

-- ---- and those of a profile

pub stub_there : (stub : Option ℕ) (nr : ℕ) → is_stubbed stub nr ≡ true → stub_count stub ≡ 1
stub_there stub nr h = grind (arith, common_steps, nat_tests)

-- the rules for a number of the profile's architecture
abbrev pub own_wanted : Profile → Rule → ℕ → List Rule
own_wanted p s nr = cond (is_stubbed p.stub nr) (s ∷ []) (rules_of nr p.rules)

module _ (p : Profile) (s : Rule) (always : s.conditions ≡ []) where
  pub stub_bound : sum_by rule_bound (s ∷ []) ≡ 2
  stub_bound = grind (arith, common_steps, nat_tests, sum_by-cons)

  pub own_first : (call : CallRecord) → s.answer.0 ≡ stub_answer
      → first_answer p.architecture call p.default_answer (own_wanted p s call.nr) ≡ own_answer p call
  own_first call answers = grind (arith, common_steps, nat_tests, cases_Bool)

  module _ {ranges : List NrRange} (laid : AreRangesOf p (s ∷ []) ranges) where
    abbrev first : ℕ
    first = (row_of p.architecture).first

    abbrev last : ℕ
    last = (row_of p.architecture).last

    abbrev below_stub : List NrRange
    below_stub = ranges_below laid.start laid.whole

    rest_served : AreServed p.default_answer (own_wanted p s) first below_stub laid.start
    rest_served =
        let is = laid.is_start in
        let before = laid.laid in
        served_as p.default_answer (λ nr. rules_of nr p.rules) (own_wanted p s) first laid.start below_stub
        (served_below p.default_answer (λ nr. rules_of nr p.rules) laid.start first (last + 1) laid.whole before.serve
        is.first is.last) (λ nr from below. rw (is.below nr from below) refl)

    pub own_served : AreServed p.default_answer (own_wanted p s) first ranges (last + 1)
    own_served = elim (cases_lt laid.start (last + 1)) [
      | inl lt ↦ laid_served p.default_answer (own_wanted p s) first (last + 1) (laid.some lt) rest_served lt
          (λ nr from below. rw (laid.is_start.from nr from (omega arith))
          (record { answers = λ a call. refl; small = omega arith }))
      | inr past ↦
          let end : laid.start ≡ last + 1 = omega (arith, laid.is_start.last) in
          rw (laid.none past)
          (subst (λ (n : ℕ). AreServed p.default_answer (own_wanted p s) first below_stub n) end rest_served)
    ]

    pub own_bounded : (length ranges ≤ 1 + 2 * number_count p)
        × (sum_by range_bound ranges
        ≤ 3 + 4 * number_count p + (sum_by rule_bound p.rules + 2 * stub_count p.stub))
    own_bounded =
        let is_below = λ (t : NrRange). ltb t.first laid.start in
        let fewer = length-filter_both is_below (λ t. not (is_below t)) (λ t. refl) laid.whole in
        let smaller = sum_by-filter_both is_below (λ t. not (is_below t)) (λ t. refl) range_bound laid.whole in
        let before = laid.laid in
        elim (cases_lt laid.start (last + 1)) [
          | inl lt ↦
              let stub = stub_there p.stub laid.start (laid.is_start.from laid.start (omega arith) (omega arith)) in
              let more = laid_few (laid.some lt) in
              (omega (arith, before.few), omega (arith, before.small, stub_bound))
          | inr past ↦ rw (laid.none past) (omega (arith, before.few), omega (arith, before.small))
        ]

    pub own_rules : (P : Rule → Type 0) → All P p.rules → P s → AllRules P ranges
    own_rules P all its =
        let before = laid.laid in
        let whole : AllRules P laid.whole = λ k d lt j r inside. All-contains P p.rules _ all (before.from_rules k d lt j r inside) in
        let few : AllRules P below_stub =
        All-filter (λ t. ltb t.first laid.start) (λ (t : NrRange). All P t.rules.now) laid.whole whole in
        elim (cases_lt laid.start (last + 1)) [
          | inl lt ↦ laid_rules P (laid.some lt) few (All-cons P s [] its (λ k d lt. absurd (omega arith)))
          | inr past ↦ rw (laid.none past) few
        ]
