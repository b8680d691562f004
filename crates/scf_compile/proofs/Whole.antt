-- The filter of one profile: the numbers behind its architecture's are one more range of its search.
use Rattle.scf_compile.proofs.Common.{◌≡◌, ℕ, suc, ◌+◌, ◌*◌, ◌<◌, ◌≤◌, ◌^◌, List, [], ◌∷◌, length, cond, leb, All, refl, sym, ap, arith, inl, inr, cases_eq, cases_lt, le-leb, sum_by, sum_by-cons, CallRecord, IsRecord, words_of, Insn, IsOf, row_of, seccomp_ret_kill_process as kill, Rule, IsRule, IsPlainRule, IsPlainProfile, Architecture, stub_answer, stub_count, number_count, own_answer, Profile, IsProfile, Position, NrRange, rule_bound, binary_digits, size_bound_of, AllRules, AreServed, AreAllRanges, AreRangesOf, IsSearchPut, IsGated, IsFilterOf, AnswersCall, EndsWithin, first_answer, MayBePut, most_ranges, range_bound}
use Rattle.std.proofs.lemmas.Bool.{lt-leb}
use Rattle.std.proofs.lemmas.List.Elements.{All-head, All-cons}
use Rattle.scf_insn.proofs.Architectures.{reach}
use Rattle.scf_profile.proofs.Answering.{own_or_foreign}
use Rattle.scf_compile.proofs.Counts.{below_digits, own_steps, some_served}
use Rattle.scf_compile.proofs.Filters.{own_answered}
use Rattle.scf_compile.proofs.Laying.{laid_few, laid_rules, laid_served, served_as}
use Rattle.scf_compile.proofs.RuleCode.{from_first}
use Rattle.scf_compile.proofs.Runs.{more}
use Rattle.scf_compile.proofs.Sizes.{rules_valid, size_small}
use Rattle.scf_compile.proofs.Stubs.{own_bounded, own_first, own_rules, own_served, own_wanted}

-- a rule without conditions, and its answer
pub record IsConstant (a : Architecture) (r : Rule) (given : ℕ) : Type 0 where
  pub rule : IsRule a r
  pub always : r.conditions ≡ []
  pub answer : r.answer.0 ≡ given

module _ (p : Profile) (valid : IsProfile p) (from_zero : (row_of p.architecture).first ≡ 0) (s r : Rule)
    (stub : IsConstant p.architecture s stub_answer) (foreign_rule : IsConstant p.architecture r kill)
    {whole : List NrRange} (ranges : AreAllRanges p (s ∷ []) (r ∷ []) whole) where
  abbrev always : r.conditions ≡ []
  always = foreign_rule.always

  abbrev ss : List NrRange
  ss = ranges.first

  abbrev laid : AreRangesOf p (s ∷ []) ss
  laid = ranges.laid

  abbrev last : ℕ
  last = (row_of p.architecture).last

  abbrev count : ℕ
  count = number_count p

  -- the rules for a number of the profile's architecture, and else the one behind them
  abbrev wanted : ℕ → List Rule
  wanted nr = cond (leb nr last) (own_wanted p s nr) (r ∷ [])

  within : (nr : ℕ) → nr ≤ last → wanted nr ≡ own_wanted p s nr
  within nr le = rw (le-leb nr last le) refl

  behind : (nr : ℕ) → last < nr → wanted nr ≡ r ∷ []
  behind nr lt = rw (lt-leb nr last lt) refl

  ss_served : AreServed p.default_answer wanted 0 ss (last + 1)
  ss_served =
      rw from_zero at (served_as p.default_answer (own_wanted p s) wanted (row_of p.architecture).first (last + 1) ss
      (own_served p s stub.always laid) (λ nr from below. sym (within nr (omega arith))))

  whole_served : AreServed p.default_answer wanted 0 whole (2 ^ 32)
  whole_served = elim (cases_lt (last + 1) (2 ^ 32)) [
    | inl lt ↦ laid_served p.default_answer wanted 0 (2 ^ 32) (ranges.some (omega arith)) ss_served lt
        (λ nr from below. rw (behind nr (omega arith)) (record { answers = λ a call. refl; small = omega arith }))
    | inr past ↦
        let end : last + 1 ≡ 2 ^ 32 = omega (arith, (reach p.architecture).small) in
        rw (ranges.none (omega (arith, (reach p.architecture).small)), ← end) ss_served
  ]

  bounded : (length whole ≤ 2 + 2 * count)
      × (sum_by range_bound whole ≤ 6 + 4 * count + (sum_by rule_bound p.rules + 2 * stub_count p.stub))
  bounded = elim (cases_lt (last + 1) (2 ^ 32)) [
    | inl lt ↦
        let more = laid_few (ranges.some (omega arith)) in
        let bound = sum_by-cons rule_bound r [] in
        let conditions = ap (λ (l : List _). length l) always in
        (omega (arith, own_bounded p s stub.always laid), omega (arith, own_bounded p s stub.always laid))
    | inr past ↦ rw (ranges.none (omega (arith, (reach p.architecture).small)))
        (omega (arith, own_bounded p s stub.always laid), omega (arith, own_bounded p s stub.always laid))
  ]

  whole_rules : (P : Rule → Type 0) → All P p.rules → P s → P r → AllRules P whole
  whole_rules P all stubs its = elim (cases_lt (last + 1) (2 ^ 32)) [
    | inl lt ↦ laid_rules P (ranges.some (omega arith)) (own_rules p s stub.always laid P all stubs)
        (All-cons P r [] its (λ k d lt. absurd (omega arith)))
    | inr past ↦ rw (ranges.none (omega (arith, (reach p.architecture).small)))
        (own_rules p s stub.always laid P all stubs)
  ]

  pub whole_may_be_put : MayBePut p whole
  whole_may_be_put = record {
    some = some_served _ _ _ _ whole (omega arith) whole_served;
    few = omega (arith, bounded);
    rules = whole_rules (IsRule p.architecture) (rules_valid p valid) stub.rule foreign_rule.rule;
    small = omega (arith, bounded, size_small p valid);
  }

  module _ {searched code : List Insn} {index : Position}
      (search_put : IsSearchPut p.architecture p.default_answer (most_ranges p) whole [] searched index)
      (gated : IsGated (row_of p.architecture).audit searched code) where
    search_ends : (call : CallRecord) → IsRecord call
        → EndsWithin (words_of call) searched call.nr
        (first_answer p.architecture call p.default_answer (wanted call.nr))
        (2 * suc (binary_digits count) + (1 + sum_by rule_bound (wanted call.nr)))
    search_ends call fits =
        rw (from_first searched index (search_put.front refl)) at
        (search_put.ends call wanted 0 (2 ^ 32) (suc (binary_digits count)) fits whole_served (omega arith) fits.nr
        (omega (arith, below_digits count)))

    -- a call that isn't of its architecture
    foreign : (call : CallRecord) → IsRecord call → (IsOf p.architecture call → ⊥)
        → EndsWithin (words_of call) code 0 kill (8 + 2 * binary_digits count)
    foreign call fits differs = elim (cases_eq call.arch (row_of p.architecture).audit) [
      | inr differs ↦ more (gated.foreign call fits differs) (omega arith)
      | inl same ↦ elim (cases_lt last call.nr) [
        | inr within ↦ absurd (differs (record { arch = same; first = omega arith; last = within }))
        | inl past ↦
            let answer : first_answer p.architecture call p.default_answer (r ∷ []) ≡ kill = rw always foreign_rule.answer in
            let bound = sum_by-cons rule_bound r [] in
            let conditions = ap (λ (l : List _). length l) always in
            let ends = rw answer at (rw (behind call.nr past) at (search_ends call fits)) in
            more (gated.matching call kill _ fits same ends) (omega arith)
      ]
    ]

    answers : (call : CallRecord) → IsRecord call → AnswersCall (p ∷ []) code call
    answers call fits = elim (own_or_foreign p.architecture call) [
      | inl is_of ↦
          let ends = rw (within call.nr is_of.last) at (search_ends call fits) in record {
            answer = own_answer p call;
            of_words = more (gated.matching call _ _ fits is_of.arch (rw (own_first p s stub.always call stub.answer) at ends))
                (omega (arith, own_steps p s stub.always call.nr));
            of_profiles = inl (is_of, own_answered p call is_of);
          }
      | inr differs ↦ record {
        answer = kill;
        of_words = more (foreign call fits differs) (omega arith);
        of_profiles = inr (differs, refl);
      }
    ]

    -- The code is the profile's filter.
    pub whole_filter : IsFilterOf (p ∷ []) code
    whole_filter = record {
      some = gated.some;
      sized = omega (arith, gated.small, search_put.small, bounded, sum_by-cons size_bound_of p []);
      sound = λ asked is. gated.sound asked
          (search_put.put.sound asked (λ e. whole_rules IsPlainRule (All-head IsPlainProfile p [] (is e))
          (plain s stub.always) (plain r always)) tt);
      answered = answers;
    } where
      plain : (q : Rule) → q.conditions ≡ [] → IsPlainRule q
      plain q none = record { conditions = rw none (λ k d lt. absurd (omega arith)) }
