-- A profile has an answer to every call, and one only.
use Rattle.std.specs.Prelude.{MatchOption}
use Rattle.scf_profile.proofs.Common.{row_of, AreOfApart, zero, take, subst, All-head, All-tail, OfFirst, ◌<◌, ◌≡◌, ℕ, suc, ◌⊎◌, Bool, true, false, cond, List, [], ◌∷◌, All, refl, Option, Some, None, sym, arith, inl, inr, Contains, find, option_map_or, cases_eq, cases_lt, both_ways, get_or, length, ◌∙◌, All-contains, All-nil, All-cons, Architecture, CallRecord, IsOf, seccomp_ret_kill_process, IsRecord, Rule, meets, Conflicts, Profile, HaveNoConflict, ProfileAnswers, ProfilesAnswer, foreign, by_stub, by_rule, by_default, is_stubbed, stub_answer, cases_Bool, nat_tests, common_steps}

pub conflicts_both_ways : (a : Architecture) (r s : Rule) → Conflicts a r s → Conflicts a s r
conflicts_both_ways a r s h = grind (arith, common_steps, nat_tests)

-- the answers of rules without conflict that one call meets
pub same_answer : (a : Architecture) (r s : Rule) (call : CallRecord) → (Conflicts a r s → ⊥) → IsRecord call
    → meets a r call ≡ true → meets a s call ≡ true → r.answer.0 ≡ s.answer.0
same_answer a r s call none fits met met_too = grind (arith, common_steps, nat_tests, cases_eq)

pub own_or_foreign : (a : Architecture) (call : CallRecord) → IsOf a call ⊎ (IsOf a call → ⊥)
own_or_foreign a call = grind (arith, common_steps, nat_tests, cases_eq, cases_lt)

-- a rule among these that the call meets, and none only where it meets none
abbrev IsFound : Architecture → List Rule → CallRecord → Option Rule → Type 0
IsFound a rules call None = All (λ r. meets a r call ≡ false) rules
IsFound a rules call (Some r) = Contains rules r × (meets a r call ≡ true)

first_is_found : (a : Architecture) (rules : List Rule) (call : CallRecord)
    → IsFound a rules call (find (λ r. meets a r call) rules)
first_is_found a [] call = All-nil (λ s. meets a s call ≡ false)
first_is_found a (r ∷ rs) call =
    one_more (meets a r call) refl (find (λ s. meets a s call) rs) (first_is_found a rs call) where
      one_more : (b : Bool) → meets a r call ≡ b → (o : Option Rule) → IsFound a rs call o
          → IsFound a (r ∷ rs) call (cond b (Some r) o)
      one_more true met o behind = ((0, omega arith, refl), met)
      one_more false unmet None none = All-cons (λ s. meets a s call ≡ false) r rs unmet none
      one_more false unmet (Some s) h = ((suc h.0.0, omega (arith, h.0.1), h.0.2), h.1)

-- the answer to a call of its architecture by the first rule that it meets
pub answered : (p : Profile) (call : CallRecord) → IsOf p.architecture call → is_stubbed p.stub call.nr ≡ false
    → (rule : Option Rule) → rule ≡ find (λ r. meets p.architecture r call) p.rules
    → ProfileAnswers p call (option_map_or (λ (r : Rule). r.answer.0) rule p.default_answer.0)
answered p call native unstubbed rule is = by_rule_met rule (rw is (first_is_found p.architecture p.rules call)) where
  by_rule_met : (o : Option Rule) → IsFound p.architecture p.rules call o
      → ProfileAnswers p call (option_map_or (λ (r : Rule). r.answer.0) o p.default_answer.0)
  by_rule_met o h = grind (arith, common_steps, nat_tests, by_default, All-contains, meets, by_rule)

-- every call has an answer
pub some_answer : (p : Profile) (call : CallRecord) → (answer : ℕ) × ProfileAnswers p call answer
some_answer p call =
    elim (own_or_foreign p.architecture call) [
      | inr not_native ↦ (seccomp_ret_kill_process, foreign not_native)
      | inl native ↦ elim (cases_Bool (is_stubbed p.stub call.nr)) [
        | inl stubbed ↦ (stub_answer, by_stub native stubbed)
        | inr unstubbed ↦ (_, answered p call native unstubbed (find (λ r. meets p.architecture r call) p.rules) refl)
      ]
    ]

-- ---- each way to an answer leads to one answer only

module _ (p : Profile) (call : CallRecord) where
  pub only_foreign : (IsOf p.architecture call → ⊥) → {a : ℕ} → ProfileAnswers p call a → a ≡ seccomp_ret_kill_process
  only_foreign h h2 = grind (arith, common_steps, nat_tests)

  module _ (native : IsOf p.architecture call) where
    pub only_stub : is_stubbed p.stub call.nr ≡ true → {a : ℕ} → ProfileAnswers p call a → a ≡ stub_answer
    only_stub h h2 = grind (arith, common_steps, nat_tests, both_ways)

    module _ (unstubbed : is_stubbed p.stub call.nr ≡ false) where
      pub only_default : ((r : Rule) → Contains p.rules r → meets p.architecture r call ≡ false) → {a : ℕ}
          → ProfileAnswers p call a → a ≡ p.default_answer.0
      only_default unmet answered = grind (arith, common_steps, nat_tests, both_ways)

      pub only_rule : HaveNoConflict p.architecture p.rules → IsRecord call → (r : Rule) → Contains p.rules r
          → meets p.architecture r call ≡ true → {a : ℕ} → ProfileAnswers p call a → a ≡ r.answer.0
      only_rule none fits r among met (foreign h) = absurd (h native)
      only_rule none fits r among met (by_stub native_too stubbed) = absurd (both_ways _ unstubbed stubbed)
      only_rule none fits r among met (by_rule s native_too unstubbed_too among_too met_too) =
          same_answer p.architecture s r call (none s r among_too among) fits met_too met
      only_rule none fits r among met (by_default native_too unstubbed_too unmet) = grind (arith, both_ways)

-- where no two rules conflict, a call record has one answer only
pub one_answer : (p : Profile) (call : CallRecord) → HaveNoConflict p.architecture p.rules → IsRecord call → {a b : ℕ}
    → ProfileAnswers p call a → ProfileAnswers p call b → a ≡ b
one_answer p call none fits (foreign h) answers = sym (only_foreign p call h answers)
one_answer p call none fits (by_stub native stubbed) answers = sym (only_stub p call native stubbed answers)
one_answer p call none fits (by_rule r native unstubbed among met) answers =
    sym (only_rule p call native unstubbed none fits r among met answers)
one_answer p call none fits (by_default native unstubbed unmet) answers = grind (arith, common_steps, only_default)

-- ---- several profiles

module _ (call : CallRecord) (own : Profile → Type 0) (none : Type 0) where
  -- the profile at an index is the first of the call's architecture, where none before it is
  pub first_here : (profiles : List Profile) (index : ℕ) (p : Profile) → index < length profiles
      → p ≡ get_or profiles index p → All (λ q. IsOf q.architecture call → ⊥) (take index profiles)
      → IsOf p.architecture call → own p → OfFirst profiles call own none
  first_here [] index p inside is before is_of holds = absurd (omega (arith, inside))
  first_here (q ∷ later) zero p inside is before is_of holds = grind (arith, common_steps, nat_tests)
  first_here (q ∷ later) (suc index) p inside is before is_of holds = inr (
    All-head (λ o. IsOf o.architecture call → ⊥) q (take index later) before,
    first_here later index p (omega (arith, inside)) is
        (All-tail (λ o. IsOf o.architecture call → ⊥) q (take index later) before) is_of holds,
  )

  pub none_here : (profiles : List Profile) → All (λ q. IsOf q.architecture call → ⊥) profiles → none
      → OfFirst profiles call own none
  none_here [] all holds = holds
  none_here (q ∷ later) all holds = inr (
    All-head (λ o. IsOf o.architecture call → ⊥) q later all,
    none_here later (All-tail (λ o. IsOf o.architecture call → ⊥) q later all) holds,
  )

module _ (call : CallRecord) (own : Profile → Type 0) (none : Type 0) where
  -- what holds of the profile that is found, or where none is
  pub by_found : (profiles : List Profile) (found : Option Profile)
      → OfFirst profiles call (λ p. found ≡ Some p) (found ≡ None) → MatchOption found none own
      → OfFirst profiles call own none
  by_found [] found is holds = subst (λ (o : Option Profile). MatchOption o none own) is holds
  by_found (p ∷ later) found (inl is) holds = grind (arith, common_steps, nat_tests)
  by_found (p ∷ later) found (inr is) holds = inr (is.0, by_found later found is.1 holds)

  pub of_found : (profiles : List Profile) (found : Option Profile)
      → OfFirst profiles call (λ p. found ≡ Some p) (found ≡ None) → OfFirst profiles call own none
      → MatchOption found none own
  of_found [] found is holds = subst (λ (o : Option Profile). MatchOption o none own) (sym is) holds
  of_found (p ∷ later) found (inl is) (inl holds) = grind (arith, common_steps, nat_tests)
  of_found (p ∷ later) found (inl is) (inr other) = absurd (other.0 is.0)
  of_found (p ∷ later) found (inr is) (inl other) = absurd (is.0 other.0)
  of_found (p ∷ later) found (inr is) (inr holds) = of_found later found is.1 holds.1

-- of profiles that are apart, one of the call's architecture is the first of it
pub first_among : (profiles : List Profile) (p : Profile) (call : CallRecord) (own : Profile → Type 0) (none : Type 0)
    → AreOfApart profiles → Contains profiles p → IsOf p.architecture call → own p → OfFirst profiles call own none
first_among [] p call own none apart (k, lt, is) is_of holds = absurd (omega (arith, lt))
first_among (q ∷ later) p call own none apart (zero, lt, is) is_of holds = grind (arith, common_steps, nat_tests)
first_among (q ∷ later) p call own none apart (suc k, lt, is) is_of holds = inr (
  λ of_q.
      let follows = rw is at (apart 0 (suc k) p (omega arith) lt) in
      let past : (row_of q.architecture).last < (row_of p.architecture).first = follows (sym of_q.arch ∙ is_of.arch) in
      omega (arith, past, of_q.last, is_of.first),
  first_among later p call own none (λ i j d i_lt within. apart (suc i) (suc j) d (omega arith) (omega arith))
      (k, omega (arith, lt), is) is_of holds,
)

-- the answer of the only profile is its own
pub of_only : (p : Profile) (call : CallRecord) (answer : ℕ) → ProfilesAnswer (p ∷ []) call answer
    → ProfileAnswers p call answer
of_only p call answer h = grind (arith, common_steps, nat_tests, foreign)

pub by_only : (p : Profile) (call : CallRecord) (answer : ℕ) → ProfileAnswers p call answer
    → ProfilesAnswer (p ∷ []) call answer
by_only p call answer h = grind (arith, common_steps, own_or_foreign, only_foreign)

pub one_answer_among : (profiles : List Profile) (call : CallRecord)
    → All (λ p. HaveNoConflict p.architecture p.rules) profiles → IsRecord call → {a b : ℕ}
    → ProfilesAnswer profiles call a → ProfilesAnswer profiles call b → a ≡ b
one_answer_among [] call none fits first second = first ∙ sym second
one_answer_among (p ∷ later) call none fits (inl first) (inl second) =
    one_answer p call (All-head (λ o. HaveNoConflict o.architecture o.rules) p later none) fits first.1 second.1
one_answer_among (p ∷ later) call none fits (inl first) (inr second) = absurd (second.0 first.0)
one_answer_among (p ∷ later) call none fits (inr first) (inl second) = absurd (first.0 second.0)
one_answer_among (p ∷ later) call none fits (inr first) (inr second) =
    one_answer_among later call (All-tail (λ o. HaveNoConflict o.architecture o.rules) p later none) fits first.1 second.1
