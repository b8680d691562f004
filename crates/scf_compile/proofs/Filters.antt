-- What is put before the searches of profiles makes them a filter.
use Rattle.scf_compile.proofs.Common.{◌≡◌, ℕ, suc, ◌+◌, ◌<◌, ◌≤◌, map, List, [], ◌∷◌, length, refl, sym, ap, ◌∙◌, arith, inl, inr, find, cases_Bool, cases_eq, eq-eqb, ne_eqb, subst, All, AllByRecursion, All-tail, Insn, CallRecord, IsRecord, IsOf, AreApart, Architecture, Answer, Rule, meets, rules_of, Profile, AreOfApart, ProfileAnswers, ProfilesAnswer, by_stub, is_stubbed, own_answer, Position, Search, greatest, rules_steps, size_bound_of_each, load_word, AreSearchesOf, AreSearched, IsFilterOf, IsSearched, IsDispatchPut, AllStand, first_answer, nat_tests, common_steps}
use Rattle.std.specs.Option.{option_map_or}
use Rattle.scf_profile.proofs.Answering.{answered as profile_answers, own_or_foreign}
use Rattle.scf_compile.proofs.Runs.{more, loads, load_sound}

-- the first of the rules with its number that a call meets is the first of all
first_met : (a : Architecture) (default : Answer) (call : CallRecord) (rs : List Rule)
    → first_answer a call default (rules_of call.nr rs)
    ≡ option_map_or (λ (r : Rule). r.answer.0) (find (λ r. meets a r call) rs) default.0
first_met a default call [] = refl
first_met a default call (x ∷ xs) = grind (arith, common_steps, nat_tests, cases_eq, ne_eqb, eq-eqb, cases_Bool, first_met a default call xs)

-- what a profile answers to a call of its architecture
pub own_answered : (p : Profile) (call : CallRecord) → IsOf p.architecture call
    → ProfileAnswers p call (own_answer p call)
own_answered p call is_of = elim (cases_Bool (is_stubbed p.stub call.nr)) [
  | inl stubbed ↦ rw stubbed (by_stub is_of stubbed)
  | inr unstubbed ↦ rw (unstubbed, first_met p.architecture p.default_answer call p.rules)
      (profile_answers p call is_of unstubbed _ refl)
]

-- ---- the searches of profiles

pub all_stand : (code : List Insn) (ps : List Profile) (ss : List Search) → AreSearchesOf code ps ss
    → AllStand ss code × (length ss ≡ length ps)
all_stand code [] [] each = (tt, refl)
all_stand code [] (s ∷ ss) each = absurd each
all_stand code (p ∷ ps) [] each = absurd each
all_stand code (p ∷ ps) (s ∷ ss) each = grind (arith, common_steps, nat_tests, all_stand code ps ss each.1)

module _ (call : CallRecord) (fits : IsRecord call) (code : List Insn) (most : ℕ) (some : 0 < most) where
  -- a call of one profile is of none that is apart from it
  none_apart : (p : Profile) → IsOf p.architecture call → (ps : List Profile) (ss : List Search)
      → AreSearchesOf code ps ss → All (λ q. AreApart p.architecture q.architecture) ps
      → AllByRecursion (λ s. IsOf s.architecture call → ⊥) ss
  none_apart p is_of [] [] each apart = tt
  none_apart p is_of [] (s ∷ ss) each apart = absurd each
  none_apart p is_of (q ∷ qs) [] each apart = absurd each
  none_apart p is_of (q ∷ qs) (s ∷ ss) each apart = (
    λ its.
        let theirs = subst (λ (a : Architecture). IsOf a call) each.0.architecture its in
        let after = apart 0 q (omega arith) (sym is_of.arch ∙ theirs.arch) in
        let last = is_of.last in
        let first = theirs.first in omega arith,
    none_apart p is_of qs ss each.1 (All-tail (λ q. AreApart p.architecture q.architecture) q qs apart),
  )

  absent : (P : Search → Type 0) (ss : List Search) → AllByRecursion (λ s. IsOf s.architecture call → ⊥) ss
      → AllByRecursion (λ s. IsOf s.architecture call → P s) ss
  absent P [] none = tt
  absent P (s ∷ ss) none = (λ is_of. absurd (none.0 is_of), absent P ss none.1)

  -- Of profiles that are apart one answers the call, and it is the one whose search does, or none is there.
  pub answer_found : (ps : List Profile) (ss : List Search) → AreSearchesOf code ps ss → AreOfApart ps
      → AllByRecursion (λ p. 3 + rules_steps p ≤ most) ps
      → (answer : ℕ) × IsSearched ss code call answer most × ProfilesAnswer ps call answer
  answer_found [] [] each apart few = (
    _,
    record { each = tt; none = λ all. refl; some = some },
    refl,
  )
  answer_found [] (s ∷ ss) each apart few = absurd each
  answer_found (p ∷ ps) [] each apart few = absurd each
  answer_found (p ∷ ps) (s ∷ ss) each apart few =
      let first = each.0 in
      let same = first.architecture in
      elim (own_or_foreign p.architecture call) [
        | inl is_of ↦
            let later = none_apart p is_of ps ss each.1 (λ k d lt. apart 0 (suc k) d (omega arith) (omega arith)) in (
              own_answer p call,
              record {
                each = (λ its. more (first.ends call fits is_of) few.0, absent _ ss later);
                none = λ all. absurd (all.0 (subst (λ (a : Architecture). IsOf a call) (sym same) is_of));
                some = some;
              },
              inl (is_of, own_answered p call is_of),
            )
        | inr differs ↦
            let later_answer = answer_found ps ss each.1
            (λ i j d lt within. apart (suc i) (suc j) d (omega arith) (omega arith)) few.1 in
            let is = later_answer.1 in (
              later_answer.0,
              record {
                each = (
                  λ its. absurd (differs (subst (λ (a : Architecture). IsOf a call) same its)),
                  is.each,
                );
                none = λ all. is.none all.1;
                some = some;
              },
              inr (differs, later_answer.2),
            )
      ]

steps_few : (ps : List Profile) (most : ℕ) → 3 + greatest (map rules_steps ps) ≤ most
    → AllByRecursion (λ p. 3 + rules_steps p ≤ most) ps
steps_few [] most le = tt
steps_few (p ∷ ps) most le = (omega arith, steps_few ps most (omega arith))

size_of_none : (ps : List Profile) → length ps ≡ 0 → size_bound_of_each ps ≡ 0
size_of_none ps h = grind (arith, common_steps, nat_tests)

-- ---- the filter

module _ {ps : List Profile} {ss : List Search} {searched dispatched code : List Insn} {index : Position}
    (apart : AreOfApart ps) (are_searched : AreSearched ps searched ss) (put : IsDispatchPut ss searched dispatched index)
    (whole : code ≡ load_word 1 ∷ dispatched) where
  -- The code is the profiles' filter.
  pub filter_put : IsFilterOf ps code
  filter_put =
      let len : length code ≡ suc (length dispatched) = ap (λ (l : List Insn). length l) whole in
      let count = (all_stand searched ps ss are_searched.each).1 in
      let stands = put.put.near.stands in
      record {
        some = omega arith;
        sized = elim (cases_eq (length ps) 0) [
          | inl none ↦ omega (arith, size_of_none ps none, are_searched.small, put.small)
          | inr some ↦ omega (arith, are_searched.small, put.small)
        ];
        sound = λ asked is.
            let behind = put.put.sound asked (λ _. tt) (are_searched.sound asked is) in
            rw whole (load_sound 1 (omega arith) (omega (arith, put.put.some)), behind);
        answered = λ call fits.
            let most = 3 + greatest (map rules_steps ps) in
            let its = answer_found call fits searched most (omega arith) ps ss are_searched.each apart
            (steps_few ps most (omega arith)) in
            record {
              answer = its.0;
              of_words =
                  rw whole (more (loads 1 0 (omega arith) refl (put.ends call its.0 most fits its.1)) (omega arith));
              of_profiles = its.2;
            };
      }
