-- The search of ranges finds that of each number.
use Rattle.scf_compile.proofs.Common.{◌≡◌, ℕ, zero, suc, ◌+◌, ◌-◌, ◌*◌, ◌^◌, ◌<◌, ◌≤◌, List, [], ◌∷◌, ◌++◌, length, get_or, get_or-append-add, get_or_append_left, ap, ◌∙◌, arith, length-append, sum_by, nat_tests, inl, inr, length-drop, recursion_from_All, sum_by-cons, sum_by-append, Answer, Architecture, Insn, CallRecord, IsRecord, GreaterOrEqual, words_of, Rule, IsPlainRule, Position, NrRange, rule_bound, branch_code, IsFirst, IsPut, AnswersRules, IsSearchPut, EndsWithin, AllRules, AreServed, first_answer, range_bound, common_steps}
use Rattle.scf_compile.proofs.Laying.{served_parts}
use Rattle.scf_compile.proofs.Runs.{more}
use Rattle.scf_compile.proofs.RuleCode.{rules_bounded, branch_ends, branch_sound, branch_stays}
use Rattle.scf_compile.proofs.RuleCode.{from_first, answers_put, answers_there}

-- the first of some ranges begins at their lower bound
begins_at : (default : Answer) (wanted : ℕ → List Rule) (low high : ℕ) (ss : List NrRange) (s : NrRange) → 0 < length ss
    → s ≡ get_or ss 0 s → AreServed default wanted low ss high → s.first ≡ low
begins_at default wanted low high ss s h h2 h3 = grind (arith, common_steps, nat_tests)

pub all_parts : (P : Rule → Type 0) (low high : List NrRange) → AllRules P (low ++ high)
    → AllRules P low × AllRules P high
all_parts P low high all = (
  λ k d lt. rw (get_or_append_left low high d k lt) at (all k d (omega (arith, length-append low high))),
  λ k d lt. rw (get_or-append-add low high k d) at (all (length low + k) d (omega (arith, length-append low high))),
)

module _ (a : Architecture) (default : Answer) {half most : ℕ} (lower upper : List NrRange) (s : NrRange)
    (some : 0 < length upper) (many : 1 < most) (halved : 2 * half ≤ most + 1) (is : s ≡ get_or upper 0 s)
    {before mid both after : List Insn} {to_miss to_hit index : Position}
    (under : IsSearchPut a default half lower before mid to_miss)
    (over : IsSearchPut a default half upper mid both to_hit)
    (first : IsFirst (branch_code GreaterOrEqual s.first (length both - to_hit.0) (length both - to_miss.0)) both after
    index) where
  -- a number is looked for in the upper ranges, or in the lower ones
  search_ends : (call : CallRecord) (wanted : ℕ → List Rule) (low high halvings : ℕ) → IsRecord call
      → AreServed default wanted low (lower ++ upper) high → low ≤ call.nr → call.nr < high
      → most ≤ 2 ^ halvings
      → EndsWithin (words_of call) after call.nr (first_answer a call default (wanted call.nr))
      (2 * halvings + (1 + sum_by rule_bound (wanted call.nr)))
  search_ends call wanted low high zero fits served from below few = absurd (omega arith)
  search_ends call wanted low high (suc n) fits served from below few =
      let parts = served_parts default wanted low high lower upper served in
      let middle : s.first ≡ parts.0 = begins_at default wanted parts.0 high upper s some is parts.2 in
      more (branch_ends GreaterOrEqual s.first to_hit to_miss first call.nr 2 first.few
      (λ e. over.ends call wanted parts.0 high n fits parts.2 (grind (arith, nat_tests, e, middle)) below (omega arith))
      (λ e. rw (over.put.stays to_miss under.put.near.stands)
      (under.ends call wanted low parts.0 n fits parts.1 from (grind (arith, nat_tests, e, middle)) (omega arith))))
      (omega arith)

  pub search_branch : IsSearchPut a default most (lower ++ upper) before after index
  search_branch =
      let branch = branch_stays GreaterOrEqual s.first to_hit to_miss first in
      let hit = over.put in
      let miss = under.put in
      record {
        small = omega (arith, under.small, over.small, sum_by-append range_bound lower upper, first.few);
        put = record {
          longer = omega (arith, branch.0);
          stays = λ p le. branch.1 p (omega arith) ∙ hit.stays p (omega arith) ∙ miss.stays p le;
          some = omega (arith, first.first, hit.some, branch.0);
          near = record { stands = omega (arith, first.first); near = omega (arith, first.first) };
          sound = λ asked is sound.
              branch_sound GreaterOrEqual s.first to_hit to_miss first asked (λ h m. tt)
              (omega (arith, hit.some, hit.near.stands)) (omega (arith, miss.some, miss.near.stands))
              (hit.sound asked (λ e. (all_parts IsPlainRule lower upper (is e)).1)
              (miss.sound asked (λ e. (all_parts IsPlainRule lower upper (is e)).0) sound));
        };
        front = λ none. first.first;
        ends = λ call wanted low high halvings fits served from below few.
            rw (from_first after index first.first)
            (search_ends call wanted low high halvings fits served from below few);
      }

pub one_is : (ss : List NrRange) (s : NrRange) → 0 < length ss → length ss ≤ 1 → s ≡ get_or ss 0 s → ss ≡ s ∷ []
one_is ss s h h2 h3 = grind (arith, common_steps, nat_tests)

-- a block that is put where no code was begins the code
begins_code : {block before after : List Insn} {index : Position} → IsPut block before after index → 0 < length block
    → before ≡ [] → index.0 ≡ length after
begins_code {block} {before} {after} {index} put some none =
    let there = ap (λ (l : List Insn). length l) put.there ∙ length-append block put.behind in
    let whole = ap (λ (l : List Insn). length l) put.whole ∙ length-append put.front before in
    let nothing = ap (λ (l : List Insn). length l) none in
    let dropped = length-drop (length after - index.0) after in
    elim put.put [
      | inl empty ↦ omega (arith, ap (λ (l : List Insn). length l) empty, put.near.stands)
      | inr all ↦ omega (arith, ap (λ (l : List Insn). length l) all, put.near.stands)
    ]

pub search_one : (a : Architecture) (default : Answer) (most : ℕ) (s : NrRange) (block before after : List Insn)
    (index : Position)
    → AnswersRules a default s.rules.now block → IsPut block before after index
    → IsSearchPut a default most (s ∷ []) before after index
search_one a default most s block before after index code put =
    let rs = s.rules.now in
    let bounded = rules_bounded rs in
    record {
      small = omega (arith, code.len, put.few, sum_by-cons range_bound s []);
      put = answers_put (AllRules IsPlainRule (s ∷ [])) code
          (λ all. recursion_from_All IsPlainRule rs (all 0 s (omega arith))) put;
      front = begins_code put code.some;
      ends = λ call wanted low high n fits served from below few.
          let stand = served.1.stand call.nr from (omega (arith, served.2)) in
          rw (← stand.answers a call) (more (answers_there code put call fits call.nr) (omega (arith, stand.small)));
    }
