-- The search for an argument among its values.
use Rattle.scf_compile.proofs.Common.{◌≡◌, ◌≢◌, ℕ, zero, suc, ◌+◌, ◌-◌, ◌*◌, ◌<◌, ◌≤◌, All, AllByRecursion, Bool, true, false, not, eqb, ltb, filter, List, [], ◌∷◌, ◌++◌, drop, length, get_or, drop_more, refl, sym, ap, ◌∙◌, arith, inl, inr, cases_Bool, eq-eqb, eqb-true, eqb-false, ne_eqb, nat_tests, length-filter_both, All-filter, All-head, All-tail, slice_index, recursion_from_All, All-from_recursion, sum_by, sum_by-cons, Insn, CallRecord, words_of, argument, argument_low, argument_high, argument_in, argument_word, low, high, row_of, Architecture, Answer, Bits32, Bits64, Equal, GreaterOrEqual, Rule, IsPlainRule, rule_bound, Position, load_word, return_with, branch_code, code_from, IsFirst, IsPut, ArePut, EndsWithin, AreSound, AnswersRules, first_answer, rules_bound, ArgumentValue, IsArgumentValue, IsValueOf, AreValuesOf, AreValuesBefore, value_answer, IsValueSearchPut, AreValuesPut, common_steps}
use Rattle.scf_compile.proofs.Runs.{answers, loads, load_sound, more}
use Rattle.scf_compile.proofs.RuleCode.{answers_put, branch_ends, branch_sound, branch_stays, from_behind, from_first, return_answers, rules_bounded}

-- ---- the first value that a number is

-- it is among those of which something holds that holds of the number
kept_answer : (P : ℕ → Bool) (vs : List ArgumentValue) (n fallback : ℕ) → P n ≡ true
    → value_answer (filter (λ v. P v.value) vs) n fallback ≡ value_answer vs n fallback
kept_answer P [] n fallback is = refl
kept_answer P (v ∷ vs) n fallback is = grind (arith, common_steps, nat_tests, cases_Bool, ne_eqb, kept_answer P vs n fallback is)

-- and not among those of which something holds that doesn't hold of the number
lost_answer : (P : ℕ → Bool) (vs : List ArgumentValue) (n fallback : ℕ) → P n ≡ false
    → value_answer (filter (λ v. P v.value) vs) n fallback ≡ fallback
lost_answer P [] n fallback is = refl
lost_answer P (v ∷ vs) n fallback is = grind (arith, common_steps, nat_tests, cases_Bool, ne_eqb, lost_answer P vs n fallback is)

-- so it can be looked for among those and then among these
split_answer : (P : ℕ → Bool) (vs : List ArgumentValue) (n fallback : ℕ)
    → value_answer (filter (λ v. not (P v.value)) vs) n (value_answer (filter (λ v. P v.value) vs) n fallback)
    ≡ value_answer vs n fallback
split_answer P vs n fallback =
    let Q : ℕ → Bool = λ k. not (P k) in
    elim (cases_Bool (P n)) [
      | inl is ↦ lost_answer Q vs n _ (ap not is) ∙ kept_answer P vs n fallback is
      | inr is ↦ kept_answer Q vs n _ (ap not is) ∙ ap (value_answer vs n) (lost_answer P vs n fallback is)
    ]

-- it isn't among those with another high half
apart_answer : (half : ℕ) (vs : List ArgumentValue) (n fallback : ℕ) → AllByRecursion (λ v. high v.value ≡ half) vs
    → high n ≢ half → value_answer vs n fallback ≡ fallback
apart_answer half [] n fallback all differs = refl
apart_answer half (v ∷ vs) n fallback all differs = grind (arith, common_steps, nat_tests, ne_eqb, apart_answer half vs n fallback all.1 differs)

-- ---- the search among values with one high half

return_put : {answer : ℕ} {before after : List Insn} {index : Position}
    → IsPut (return_with answer ∷ []) before after index → ArePut (Unit {0}) before after index
return_put {answer} put =
    answers_put (Unit {0}) (return_answers answer 1 (Unit {0}) (omega arith)) (λ _. tt) put

same_low : (n k : ℕ) → high k ≡ high n → low n ≡ low k → n ≡ k
same_low n k halves lows = omega arith

module _ (v : ArgumentValue) (vs : List ArgumentValue) (behind : Position) {before mid put after : List Insn}
    {next hit index : Position} (later : IsValueSearchPut vs behind before mid next)
    (answer_put : IsPut (return_with v.answer.0 ∷ []) mid put hit)
    (first : IsFirst (branch_code Equal (low v.value) (length put - hit.0) (length put - next.0)) put after index) where
  abbrev placed : ArePut (Unit {0}) mid put hit
  placed = return_put answer_put

  chain_ends : (words : List ℕ) (n answer most : ℕ) → All (λ v. high v.value ≡ high n) (v ∷ vs) → 0 < most
      → ((a : ℕ) → EndsWithin words (code_from behind before) a answer most)
      → EndsWithin words after (low n) (value_answer (v ∷ vs) n answer) (2 * length (v ∷ vs) + most)
  chain_ends words n answer most all pos e =
      let half : high v.value ≡ high n = All-head (λ v. high v.value ≡ high n) v vs all in
      more (branch_ends Equal (low v.value) hit next first {most = 2 * length vs + most} (low n) 2 first.few
      (λ met.
      let same = same_low n v.value half (eqb-true (low n) (low v.value) met) in
      rw (eq-eqb n v.value same, answer_put.there)
      (more {m = 1} (answers v.answer.0 (low n)) (omega arith)))
      (λ unmet.
      let apart : n ≢ v.value = λ is. eqb-false (low n) (low v.value) unmet (ap low is) in
      rw (ne_eqb n v.value apart, placed.stays next later.stands)
      (later.ends words n answer most (All-tail (λ v. high v.value ≡ high n) v vs all) pos e))) (omega arith)

  pub chain_more : IsValueSearchPut (v ∷ vs) behind before after index
  chain_more =
      let branch = branch_stays Equal (low v.value) hit next first in
      record {
        longer = omega (arith, later.longer, placed.longer, branch.0);
        small = omega (arith, later.small, answer_put.few, first.few);
        stays = λ p le. branch.1 p (omega (arith, later.longer, placed.longer)) ∙ placed.stays p (omega (arith, later.longer))
            ∙ later.stays p le;
        some = omega (arith, first.first, placed.some, placed.near.stands, branch.0);
        stands = omega (arith, first.first);
        front = λ _. first.first;
        sound = λ asked s.
            branch_sound Equal (low v.value) hit next first asked (λ h m. tt)
            (omega (arith, placed.some, placed.near.stands)) (omega (arith, later.some, later.stands, placed.longer))
            (placed.sound asked (λ _. tt) (later.sound asked s));
        ends = λ words n answer most all pos e.
            rw (from_first after index first.first) (chain_ends words n answer most all pos e);
      }

module _ (vs : List ArgumentValue) (middle : ℕ) (behind : Position) where
  abbrev is_below : ℕ → Bool
  is_below n = ltb (low n) middle

  abbrev lower : List ArgumentValue
  lower = filter (λ v. ltb (low v.value) middle) vs

  abbrev upper : List ArgumentValue
  upper = filter (λ v. not (ltb (low v.value) middle)) vs

  pub halves_len : length lower + length upper ≡ length vs
  halves_len = length-filter_both (λ v. ltb (low v.value) middle) (λ v. not (ltb (low v.value) middle)) (λ v. refl) vs

  module _ {before mid both after : List Insn} {to_miss to_hit index : Position} (stands : behind.0 ≤ length before)
      (some_lower : 0 < length lower) (some_upper : 0 < length upper)
      (under : IsValueSearchPut lower behind before mid to_miss) (over : IsValueSearchPut upper behind mid both to_hit)
      (first : IsFirst (branch_code GreaterOrEqual middle (length both - to_hit.0) (length both - to_miss.0)) both after
      index) where
    halves_end : (words : List ℕ) (n answer most : ℕ) → All (λ v. high v.value ≡ high n) vs → 0 < most
        → ((a : ℕ) → EndsWithin words (code_from behind before) a answer most)
        → EndsWithin words after (low n) (value_answer vs n answer) (2 * length vs + most)
    halves_end words n answer most all pos e =
        let H : ArgumentValue → Type 0 = λ v. high v.value ≡ high n in
        let len = halves_len in
        more (branch_ends GreaterOrEqual middle to_hit to_miss first {most = 2 * length vs - 2 + most} (low n) 2 first.few
        (λ met.
        let above : not (is_below n) ≡ true = grind (arith, nat_tests, met) in
        rw (← kept_answer (λ k. not (is_below k)) vs n answer above)
        (more (over.ends words n answer most (All-filter (λ v. not (is_below v.value)) H vs all) pos
        (λ a. rw (under.stays behind stands) (e a))) (omega arith)))
        (λ unmet.
        let below : is_below n ≡ true = grind (arith, nat_tests, unmet) in
        rw (← kept_answer is_below vs n answer below, over.stays to_miss under.stands)
        (more (under.ends words n answer most (All-filter (λ v. is_below v.value) H vs all) pos e) (omega arith))))
        (omega arith)

    pub halves_put : IsValueSearchPut vs behind before after index
    halves_put =
        let branch = branch_stays GreaterOrEqual middle to_hit to_miss first in
        let len = halves_len in
        record {
          longer = omega (arith, under.longer, over.longer, branch.0);
          small = omega (arith, under.small, over.small, first.few);
          stays = λ p le. branch.1 p (omega (arith, under.longer, over.longer)) ∙ over.stays p (omega (arith, under.longer))
              ∙ under.stays p le;
          some = omega (arith, first.first, over.some, over.stands, branch.0);
          stands = omega (arith, first.first);
          front = λ _. first.first;
          sound = λ asked s.
              branch_sound GreaterOrEqual middle to_hit to_miss first asked (λ h m. tt)
              (omega (arith, over.some, over.stands)) (omega (arith, under.some, under.stands, over.longer))
              (over.sound asked (under.sound asked s));
          ends = λ words n answer most all pos e.
              rw (from_first after index first.first) (halves_end words n answer most all pos e);
        }

-- ---- an argument

-- an argument whose high half is that of its values, in two words or in one
module _ (a : Architecture) (vs : List ArgumentValue) {behind index : Position} {before mid : List Insn}
    (fine : All (IsArgumentValue a) vs) (some : 0 < length vs) (stood : 0 < length before)
    (here : behind.0 ≡ length before) (search : IsValueSearchPut vs behind before mid index) (half : ℕ)
    (halves : All (λ v. high v.value ≡ half) vs) (place : ℕ) (lt : place < 6)
    (same : (i : ℕ) → All (λ v. v.index ≡ i) vs → i ≡ place) where
  abbrev loaded : List Insn
  loaded = load_word (argument_word place) ∷ mid

  low_ends : {answer : ℕ} (most : ℕ) (words : List ℕ) (n acc : ℕ) → high n ≡ half → 0 < most
      → slice_index words (argument_word place) ≡ low n → ((b : ℕ) → EndsWithin words before b answer most)
      → EndsWithin words loaded acc (value_answer vs n answer) (1 + 2 * length vs + most)
  low_ends {answer} most words n acc is pos word e =
      let ends : EndsWithin words (code_from index mid) (low n) (value_answer vs n answer) (2 * length vs + most) =
      search.ends words n answer most (λ k d within. halves k d within ∙ sym is) pos
      (λ b. rw (from_first before behind here) (e b)) in
      more (loads {most = 2 * length vs + most} (argument_word place) acc (omega arith) word
      (rw (from_first mid index (search.front some)) at ends)) (omega arith)

  loaded_sound : (asked : Bool) → AreSound asked before → AreSound asked loaded
  loaded_sound asked s = grind (arith, common_steps, nat_tests, load_sound)

  pub narrow_put : (row_of a).bits ≡ Bits32 → AreValuesPut a vs before loaded
  narrow_put bits = record {
    longer = omega (arith, search.longer);
    small = omega (arith, search.small);
    sound = loaded_sound;
    ends = λ call i answer most acc fits all pos e.
        let n = low (argument call place) in
        let taken : argument_in a call i ≡ n = rw (same i all, bits) refl in
        let none : half ≡ 0 = (
        let d : ArgumentValue = record { index = 0; value = 0; answer = record { 0 = 0 } } in
        let least = rw bits at (fine 0 d some).fits in
        omega (arith, least, halves 0 d some)) in
        rw taken (more (low_ends most (words_of call) n acc (omega arith) pos
        (argument_low call place ∙ omega arith) e) (omega arith));
  }

  pub wide_put : {branched : List Insn} {hit there : Position} → (row_of a).bits ≡ Bits64 → hit.0 ≡ length loaded
      → IsFirst (branch_code Equal half (length loaded - hit.0) (length loaded - behind.0)) loaded branched there
      → AreValuesPut a vs before (load_word (argument_word place + 1) ∷ branched)
  wide_put {branched} {hit} bits begins first =
      let branch = branch_stays Equal half hit behind first in
      record {
        longer = omega (arith, search.longer, branch.0);
        small = omega (arith, search.small, first.few);
        sound = λ asked s. (
          load_sound (argument_word place + 1) (omega arith) (omega (arith, branch.0)),
          branch_sound Equal half hit behind first asked (λ h m. tt) (omega arith) (omega (arith, search.longer))
              (loaded_sound asked s),
        );
        ends = λ call i answer most acc fits all pos e.
            let n = argument call place in
            let taken : argument_in a call i ≡ n = rw (same i all, bits) refl in
            let stays : code_from behind loaded ≡ before =
            from_behind (load_word (argument_word place) ∷ []) mid behind (omega (arith, search.longer))
            ∙ search.stays behind (omega arith) ∙ from_first before behind here in
            rw taken (more (loads {most = 3 + 2 * length vs + most} (argument_word place + 1) acc (omega arith)
            (argument_high call place)
            (more (branch_ends Equal half hit behind first {most = 1 + 2 * length vs + most} (high n) 2 first.few
            (λ met. rw (from_first loaded hit begins)
            (low_ends most (words_of call) n (high n) (eqb-true (high n) half met) pos (argument_low call place) e))
            (λ unmet. rw (
              apart_answer half vs n answer (recursion_from_All (λ v. high v.value ≡ half) vs halves)
                  (eqb-false (high n) half unmet),
              stays,
            ) (more (e (high n)) (omega arith)))) (omega arith))) (omega arith));
      }

-- ---- one high half after another

pub none_put : (a : Architecture) (code : List Insn) → AreValuesPut a [] code code
none_put a code = grind (arith, common_steps, nat_tests, more)

module _ (half : ℕ) where
  abbrev has_half : ArgumentValue → Bool
  has_half v = eqb (high v.value) half

  abbrev group : List ArgumentValue → List ArgumentValue
  group vs = filter has_half vs

  abbrev others : List ArgumentValue → List ArgumentValue
  others vs = filter (λ v. not (has_half v)) vs

  pub groups_len : (vs : List ArgumentValue) → length (group vs) + length (others vs) ≡ length vs
  groups_len vs = length-filter_both has_half (λ v. not (has_half v)) (λ v. refl) vs

  pub own_halves : (vs : List ArgumentValue) → AllByRecursion (λ v. high v.value ≡ half) (group vs)
  own_halves [] = tt
  own_halves (v ∷ vs) = grind (arith, common_steps, nat_tests, cases_Bool, eqb-true, own_halves vs)

  pub groups_put : (a : Architecture) (vs : List ArgumentValue) {before mid after : List Insn}
      → AreValuesPut a (group vs) before mid → AreValuesPut a (others vs) mid after → AreValuesPut a vs before after
  groups_put a vs first later =
      let len = groups_len vs in
      record {
        longer = omega (arith, first.longer, later.longer);
        small = omega (arith, first.small, later.small);
        sound = λ asked s. later.sound asked (first.sound asked s);
        ends = λ call i answer most acc fits all pos e.
            let I : ArgumentValue → Type 0 = λ v. v.index ≡ i in
            let n = argument_in a call i in
            more (rw (split_answer (λ k. eqb (high k) half) vs n answer) at
            (later.ends call i _ (8 * length (group vs) + most) acc fits (All-filter (λ v. not (has_half v)) I vs all)
            (omega arith) (λ b. first.ends call i answer most b fits (All-filter has_half I vs all) pos e)))
            (omega arith);
      }

pub own_some : (vs : List ArgumentValue) (d : ArgumentValue) → 0 < length vs
    → 0 < length (group (high (get_or vs 0 d).value) vs)
own_some vs d h = grind (arith, common_steps, nat_tests, eq-eqb)

-- ---- rules

index_of : (a : Architecture) (i : ℕ) (vs : List ArgumentValue) (rs : List Rule) → AreValuesOf a i vs rs
    → AllByRecursion (λ v. v.index ≡ i) vs
index_of a i [] [] each = tt
index_of a i [] (r ∷ rs) each = absurd each
index_of a i (v ∷ vs) [] each = absurd each
index_of a i (v ∷ vs) (r ∷ rs) each = (each.1, index_of a i vs rs each.2)

pub fine_of : (a : Architecture) (i : ℕ) (vs : List ArgumentValue) (rs : List Rule) → AreValuesOf a i vs rs
    → AllByRecursion (IsArgumentValue a) vs
fine_of a i [] [] each = tt
fine_of a i [] (r ∷ rs) each = absurd each
fine_of a i (v ∷ vs) [] each = absurd each
fine_of a i (v ∷ vs) (r ∷ rs) each = (each.0.fine, fine_of a i vs rs each.2)

-- each of the rules has one condition
own_bound : (a : Architecture) (i : ℕ) (vs : List ArgumentValue) (rs rules_behind : List Rule) → AreValuesOf a i vs rs
    → sum_by rule_bound (rs ++ rules_behind) ≡ 10 * length vs + sum_by rule_bound rules_behind
own_bound a i [] [] rules_behind each = omega arith
own_bound a i [] (r ∷ rs) rules_behind each = absurd each
own_bound a i (v ∷ vs) [] rules_behind each = absurd each
own_bound a i (v ∷ vs) (r ∷ rs) rules_behind each = grind (arith, common_steps, nat_tests, sum_by-cons, own_bound a i vs rs rules_behind each.2)

some_bound : (a : Architecture) (i : ℕ) (vs : List ArgumentValue) (rs rules_behind : List Rule) → AreValuesOf a i vs rs
    → 0 < length vs → rules_bound (rs ++ rules_behind) ≡ 1 + 10 * length vs + sum_by rule_bound rules_behind
some_bound a i [] rs rules_behind each some = absurd (omega arith)
some_bound a i (v ∷ vs) [] rules_behind each some = absurd each
some_bound a i (v ∷ vs) (r ∷ rs) rules_behind each some = omega (arith, own_bound a i (v ∷ vs) (r ∷ rs) rules_behind each)

plain_rest : (rs rules_behind : List Rule) → AllByRecursion IsPlainRule (rs ++ rules_behind) → AllByRecursion IsPlainRule rules_behind
plain_rest [] rules_behind all = all
plain_rest (r ∷ rs) rules_behind all = plain_rest rs rules_behind all.1

first_of_values : (a : Architecture) (default : Answer) (call : CallRecord) (i : ℕ) (vs : List ArgumentValue)
    (rs rules_behind : List Rule) → AreValuesOf a i vs rs
    → value_answer vs (argument_in a call i) (first_answer a call default rules_behind)
    ≡ first_answer a call default (rs ++ rules_behind)
first_of_values a default call i [] [] rules_behind each = refl
first_of_values a default call i [] (r ∷ rs) rules_behind each = absurd each
first_of_values a default call i (v ∷ vs) [] rules_behind each = absurd each
first_of_values a default call i (v ∷ vs) (r ∷ rs) rules_behind each = grind (arith, common_steps, nat_tests, first_of_values a default call i vs rs rules_behind each.2)

-- The search stands for the rules of the values.
pub values_more : (a : Architecture) (default : Answer) (i : ℕ) (vs : List ArgumentValue) (rs rules_behind : List Rule)
    {before after : List Insn} → AreValuesOf a i vs rs → 0 < length vs → AreValuesPut a vs before after
    → AnswersRules a default rules_behind before → AnswersRules a default (rs ++ rules_behind) after
values_more a default i vs rs rules_behind each some put next =
    let bound = some_bound a i vs rs rules_behind each some in
    let behind = rules_bounded rules_behind in
    record {
      some = omega (arith, next.some, put.longer);
      len = omega (arith, next.len, put.small);
      sound = λ asked is. put.sound asked (next.sound asked (λ e. plain_rest rs rules_behind (is e)));
      ends = λ call fits acc.
          let all = All-from_recursion (λ v. v.index ≡ i) vs (index_of a i vs rs each) in
          rw (← first_of_values a default call i vs rs rules_behind each)
          (more (put.ends call i _ (rules_bound rules_behind - 2) acc fits all (omega arith) (λ b. next.ends call fits b))
          (omega arith));
    }

-- one rule more, before the others
each_more : (a : Architecture) (i : ℕ) (vs : List ArgumentValue) (rs : List Rule) (v : ArgumentValue) (r : Rule)
    → AreValuesOf a i vs rs → IsValueOf a v r → (0 < length vs → v.index ≡ (get_or vs 0 v).index)
    → (j : ℕ) × AreValuesOf a j (v ∷ vs) (r ∷ rs)
each_more a i vs rs v r h h2 h3 = grind (arith, common_steps, nat_tests)

pub before_more : {a : Architecture} {rules : List Rule} {end : ℕ} {vs : List ArgumentValue} (i : ℕ)
    (v : ArgumentValue) (r : Rule) → AreValuesBefore a rules end vs → i + length vs ≡ end → 0 < i → i ≤ length rules
    → r ≡ get_or rules (i - 1) r → IsValueOf a v r → (0 < length vs → v.index ≡ (get_or vs 0 v).index)
    → AreValuesBefore a rules end (v ∷ vs)
before_more {a} {rules} {end} {vs} i v r values count some inside here is same =
    let each = each_more a values.argument vs values.value_rules v r values.each is same in
    let begin : end - length vs ≡ i = omega arith in
    let at_begin : drop i rules ≡ values.value_rules ++ drop end rules = rw begin at values.whole in
    record {
      argument = each.0;
      few = omega arith;
      value_rules = r ∷ values.value_rules;
      whole =
          let at_r : end - length (v ∷ vs) ≡ i - 1 = omega arith in
          let next : i - 1 + 1 ≡ i = omega arith in
          ap (λ (n : ℕ). drop n rules) at_r ∙ drop_more rules (i - 1) r (omega arith)
          ∙ ap (λ (q : Rule). q ∷ drop (i - 1 + 1) rules) (sym here)
          ∙ ap (λ (n : ℕ). r ∷ drop n rules) next ∙ ap (λ (qs : List Rule). r ∷ qs) at_begin;
      each = each.1;
    }

-- what a beginning of the rules leaves stays within their bound
pub rest_bound : (rules : List Rule) (k : ℕ) → rules_bound (drop k rules) ≤ rules_bound rules
rest_bound rules zero = omega arith
rest_bound [] (suc k) = omega arith
rest_bound (r ∷ rs) (suc k) = grind (arith, common_steps, nat_tests, rules_bounded, sum_by-cons, rest_bound rs k)

-- the code of values before an index is within it, too
pub values_small : {a : Architecture} {rules : List Rule} {end : ℕ} {vs : List ArgumentValue} (code : List Insn)
    → AreValuesBefore a rules end vs → 0 < length vs → length code + 2 ≤ rules_bound (drop end rules)
    → length code + 8 * length vs ≤ rules_bound rules
values_small {a} {rules} {end} {vs} code values some few =
    let bound = some_bound a values.argument vs values.value_rules (drop end rules) values.each some in
    let whole = rest_bound rules (end - length vs) in
    let behind = rules_bounded (drop end rules) in
    omega (arith, rw values.whole at whole)
