-- Ranges are put one behind another until each number has its rules.
use Rattle.scf_compile.proofs.Common.{◌≡◌, ℕ, get_or, take, ◌+◌, ◌-◌, ◌*◌, ◌<◌, ◌≤◌, All, List, [], ◌∷◌, ◌++◌, length, map, refl, sym, ap, ◌∙◌, arith, inl, inr, eqb, length-append, length-map, get_or-map, get_or_default, sum_by, Contains, cases_eq, cases_lt, take_all, take_more, All-contains_itself, All-filter, All-push, sum_by-cons, sum_by-append, Answer, Architecture, row_of, All-map, Rule, numbers_of, rules_of, NumberRules, AreNumbersOf, NrRange, AllRules, rule_bound, StandsFor, AreEffective, rules_bound, range_bound, IsServed, AreServed, IsLaid, begins, continues, AreRangesUpTo, AreRangesOfRules, Contains-permutation, sum_by_more, number_there, number_in, own_some, count_of_numbers, AllPairs-from_increasing, sum_of_rules, nat_tests, common_steps}
use Rattle.scf_insn.proofs.Architectures.{some_number}

-- ---- one range more

module _ (default : Answer) (wanted : ℕ → List Rule) where
  served_push : (low middle high : ℕ) (ss : List NrRange) (s : NrRange) → AreServed default wanted low ss middle
      → IsServed default wanted s middle high → AreServed default wanted low (ss ++ s ∷ []) high
  served_push low middle high [] s before is = grind (arith, common_steps, nat_tests)
  served_push low middle high (t ∷ ts) s before is = grind (arith, common_steps, nat_tests, served_push before.0 middle high ts s before.2 is)

  pub served_parts : (low high : ℕ) (ss ts : List NrRange) → AreServed default wanted low (ss ++ ts) high
      → (middle : ℕ) × AreServed default wanted low ss middle × AreServed default wanted middle ts high
  served_parts low high [] ts served = (low, refl, served)
  served_parts low high (s ∷ ss) ts served = grind (arith, common_steps, nat_tests, served_parts served.0 high ss ts served.2)

  -- they are in rising order
  served_rising : (low high : ℕ) (ss : List NrRange) → AreServed default wanted low ss high → low ≤ high
  served_rising low high [] served = omega arith
  served_rising low high (s ∷ ss) served = omega (arith, served.1.some, served_rising served.0 high ss served.2)

  -- and serve all that wants the same
  pub served_as : (others : ℕ → List Rule) (low high : ℕ) (ss : List NrRange) → AreServed default wanted low ss high
      → ((nr : ℕ) → low ≤ nr → nr < high → wanted nr ≡ others nr) → AreServed default others low ss high
  served_as others low high [] served same = served
  served_as others low high (s ∷ ss) served same =
      let is = served.1 in
      let some = is.some in
      let rising = served_rising served.0 high ss served.2 in (
        served.0,
        record {
          first = is.first;
          some = some;
          stand = λ nr from below. rw (← same nr from (omega arith)) (is.stand nr from below);
        },
        served_as others served.0 high ss served.2 (λ nr from below. same nr (omega arith) below),
      )

module _ {before after : List NrRange} {next : ℕ} {rules : List Rule} where
  pub laid_few : IsLaid before next rules after
      → (length after ≤ length before + 1)
      × (sum_by range_bound after ≤ sum_by range_bound before + rules_bound rules)
  laid_few h = grind (arith, common_steps, nat_tests, length-append, sum_by-append, sum_by-cons)

  pub laid_rules : (P : Rule → Type 0) → IsLaid before next rules after → AllRules P before → All P rules
      → AllRules P after
  laid_rules P (begins s here is put) all of_rules =
      rw put (All-push (λ (t : NrRange). All P t.rules.now) before s all (rw is of_rules))
  laid_rules P (continues earlier last is alike same) all of_rules = rw same all

  pub laid_served : (default : Answer) (wanted : ℕ → List Rule) (first end : ℕ) → IsLaid before next rules after
      → AreServed default wanted first before next → next < end
      → ((nr : ℕ) → next ≤ nr → nr < end → StandsFor default rules (wanted nr))
      → AreServed default wanted first after end
  laid_served default wanted first end (begins s here is put) served lt stand =
      rw put (served_push default wanted first next end before s served
      (record { first = here; some = lt; stand = λ nr from below. rw is (stand nr from below) }))
  laid_served default wanted first end (continues earlier last is alike same) served lt stand =
      let parts = served_parts default wanted first next earlier (last ∷ []) (rw is at served) in
      let old = parts.2.1 in
      let past = parts.2.2 in
      rw same (rw is (served_push default wanted first parts.0 end earlier last parts.1 (record {
        first = old.first;
        some = omega (arith, old.some);
        stand = λ nr from below. elim (cases_lt nr next) [
          | inl inside ↦ old.stand nr from (omega arith)
          | inr later ↦
              let same = alike default in
              let later = stand nr later below in record {
                answers = λ a call. same.answers a call ∙ later.answers a call;
                small = omega (arith, same.small, later.small);
              }
        ];
      })))

-- ---- the ranges up to a number

module _ {default : Answer} {rules : List Rule} {first next most bound : ℕ} {before : List NrRange}
    (laid : AreRangesUpTo first next most bound default before rules) where
  pub laid_within : {end m b : ℕ} → next ≡ end → most ≤ m → bound ≤ b → AreRangesUpTo first end m b default before rules
  laid_within same few small = grind (arith, common_steps, nat_tests)

  -- some of the rules apply up to another number
  laid_more : {after : List NrRange} {others : List Rule} (end : ℕ) → IsLaid before next others after → next < end
      → All (Contains rules) others
      → ((nr : ℕ) → next ≤ nr → nr < end → StandsFor default others (rules_of nr rules))
      → AreRangesUpTo first end (most + 1) (bound + rules_bound others) default after rules
  laid_more end put lt from_rules stand = record {
    serve = laid_served default (λ nr. rules_of nr rules) first end put laid.serve lt stand;
    from_rules = laid_rules (Contains rules) put laid.from_rules from_rules;
    few = omega (arith, laid.few, laid_few put);
    small = omega (arith, laid.small, laid_few put);
  }

  -- no rules apply up to another number
  pub laid_gap : {after : List NrRange} (end : ℕ) → (next < end → IsLaid before next [] after)
      → (end ≤ next → after ≡ before) → next ≤ end → ((nr : ℕ) → next ≤ nr → nr < end → rules_of nr rules ≡ [])
      → AreRangesUpTo first end (most + 1) (bound + 3) default after rules
  laid_gap end some none le nothing = elim (cases_lt next end) [
    | inl lt ↦ laid_more end (some lt) lt (λ k d lt. absurd (omega arith))
        (λ nr from below. rw (nothing nr from below) (record { answers = λ a call. refl; small = omega arith }))
    | inr past ↦ rw (none past) (laid_within (omega arith) (omega arith) (omega arith))
  ]

-- the last of the ranges is the one that goes on
pub goes_on_last : (before : List NrRange) (first : ℕ) (last : NrRange) (rules : List Rule) → 0 < length before
    → last ≡ get_or before (length before - 1) last
    → ((default : Answer) → StandsFor default last.rules.now rules)
    → IsLaid before first rules before
goes_on_last before first last rules some is alike =
    let k = length before - 1 in
    continues (take k before) last
    (sym (take_all (k + 1) before (omega arith)) ∙ take_more before k last (omega arith)
    ∙ ap (λ (s : NrRange). take k before ++ s ∷ []) (sym is)) alike refl

-- ---- the numbers one after another

abbrev own_bound : NumberRules → ℕ
own_bound n = sum_by rule_bound n.rules.items

telling_few : {default : Answer} {effective : List Rule} (rules of_number : List Rule) → 0 < length of_number
    → AreEffective default effective of_number → All (Contains rules) of_number
    → (rules_bound effective ≤ 1 + sum_by rule_bound of_number) × All (Contains rules) effective
telling_few rules [] some is all = absurd (omega arith)
telling_few rules (r ∷ rs) some is all = elim is.some [
  | inl same ↦ rw same (omega arith, all)
  | inr none ↦ rw none (omega (arith, sum_by-cons rule_bound r rs), λ k d lt. absurd (omega arith))
]

-- The first `k` of an architecture's numbers are laid, no more than two ranges for each, and the next one is `next` or
-- above it.
pub record AreLaid (a : Architecture) (default : Answer) (numbers : List NumberRules) (rules : List Rule)
    (ss : List NrRange) (next k : ℕ) : Type 0 where
  pub laid : AreRangesUpTo (row_of a).first next (2 * k) (4 * k + sum_by own_bound (take k numbers)) default ss rules
  pub inside : next ≤ (row_of a).last + 1
  pub above : (j : ℕ) → j < k → get_or (map number_in numbers) j 0 < next
  pub within : k < length numbers → next ≤ get_or (map number_in numbers) k 0

pub laid_none : (a : Architecture) (default : Answer) (numbers : List NumberRules) (rules : List Rule)
    → All (λ n. (row_of a).first ≤ n.number) numbers → AreLaid a default numbers rules [] (row_of a).first 0
laid_none a default numbers rules from = record {
  laid = record { serve = refl; from_rules = λ k d lt. absurd (omega arith); few = omega arith; small = omega arith };
  inside = omega (arith, some_number a);
  above = λ j lt. absurd (omega arith);
  within = λ lt.
      let len = length-map numbers number_in in
      All-map (λ n. (row_of a).first ≤ n) number_in numbers from 0 0 (omega arith);
}

module _ (numbers : List NumberRules) (rules : List Rule) (are : AreNumbersOf numbers rules) where
  abbrev ns : List ℕ
  ns = map number_in numbers

  len : length ns ≡ length numbers
  len = length-map numbers number_in

  rise : (i j : ℕ) → i < j → j < length numbers → get_or ns i 0 < get_or ns j 0
  rise i j lt inside = AllPairs-from_increasing ns are.rising i j 0 lt (omega (arith, len))

  module _ {a : Architecture} {default : Answer} {ss : List NrRange} {next k : ℕ}
      (laid : AreLaid a default numbers rules ss next k) where
    -- no rules have a number below the next one
    none_between : (nr : ℕ) → next ≤ nr → (k < length numbers → nr < get_or ns k 0)
        → rules_of nr rules ≡ []
    none_between nr from below = elim (number_there nr rules) [
      | inl named ↦
          let at = Contains-permutation (numbers_of rules) ns nr are.same named in
          let here = get_or_default ns at.0 nr 0 at.1 in
          absurd (elim (cases_lt at.0 k) [
            | inl earlier ↦ omega (arith, laid.above at.0 earlier, at.2)
            | inr later ↦ let close = below (omega (arith, at.1, len)) in elim (cases_eq k at.0) [
              | inl same ↦ omega (arith, rw same at close, at.2)
              | inr apart ↦ omega (arith, rise k at.0 (omega arith) (omega (arith, at.1, len)), at.2)
            ]
          ])
      | inr none ↦ none
    ]

    pub laid_all : {after : List NrRange} → k ≡ length numbers
        → (next < (row_of a).last + 1 → IsLaid ss next [] after) → ((row_of a).last + 1 ≤ next → after ≡ ss)
        → AreRangesOfRules a default after rules
    laid_all all some none =
        let sums : sum_by own_bound (take k numbers) ≡ sum_by rule_bound rules =
        ap (sum_by own_bound) (take_all k numbers (omega arith)) ∙ sum_of_rules numbers rules are rule_bound in
        let count = count_of_numbers numbers rules are in
        laid_within (laid_gap laid.laid ((row_of a).last + 1) some none laid.inside
        (λ nr from below. none_between nr from (λ lt. absurd (omega arith)))) refl (omega arith) (omega arith)

    pub laid_own : {mid effective after : _} (n : NumberRules) → n ≡ get_or numbers k n → k < length numbers
        → n.number ≤ (row_of a).last → (next < n.number → IsLaid ss next [] mid) → (n.number ≤ next → mid ≡ ss)
        → AreEffective default effective n.rules.items → IsLaid mid n.number effective after
        → AreLaid a default numbers rules after (n.number + 1) (k + 1)
    laid_own n is lt below some none tells put =
        let here : get_or ns k 0 ≡ n.number = get_or-map number_in numbers k n 0 lt ∙ ap number_in (sym is) in
        let its = rw (← is) at (are.own k n lt) in
        let few_tell = telling_few rules n.rules.items (rw (← is) at (own_some numbers rules are k n lt)) tells (rw its
        (All-filter (λ r. eqb r.number n.number) (Contains rules) rules (All-contains_itself rules))) in
        let gap = laid_gap laid.laid n.number some none (omega (arith, laid.within lt))
        (λ nr from below. none_between nr from (λ lt. omega arith)) in
        let sums = rw (← is) at (sum_by_more own_bound numbers k n lt) in
        record {
          laid = laid_within (laid_more gap (n.number + 1) put (omega arith) few_tell.1
              (λ nr from below. let same : nr ≡ n.number = omega arith in rw (same, ← its) tells.stand))
              refl (omega arith) (omega (arith, few_tell.0));
          inside = omega arith;
          above = λ j earlier. elim (cases_eq j k) [
            | inl same ↦ rw same (omega arith)
            | inr apart ↦ omega (arith, rise j k (omega arith) lt)
          ];
          within = λ more. omega (arith, rise k (k + 1) (omega arith) more);
        }
