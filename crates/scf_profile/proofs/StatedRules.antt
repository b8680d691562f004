-- The rules that entries state: their ranges, and one answer for each entry.
use Rattle.scf_profile.proofs.Common.{◌≡◌, ℕ, suc, Bool, ◌+◌, ◌<◌, ◌≤◌, ◌^◌, List, [], ◌∷◌, ◌++◌, length, get_or, map, Some, None, Option, All, refl, sym, ap, ◌∙◌, arith, inl, inr, Contains, count_by-le-length, length-filter, All-contains_itself, All-filter, Reading, effective_rules, is_effective, filter, get, cases_order, recursion_from_All, All-nil, All-cons, All-append, All-head, All-tail, All-contains, All-same, All-weaker, filter-append, filter_map-append, Architecture, row_of, Rule, IsEntry, AreStatedRules, Answer, EntriesConflict, max_rules, IsProfile, HaveNoConflict, Conflicts, IsRule, Names, AreCallNumbers, option_map_or, rules_of_entry, rules_numbered, numbers_named, rules_from, Condition, IsCondition, AreConditions, HaveDistinctIndices, AllByRecursion, alternatives, has_repeated_index, cond, true, false, list_any, or_parts, eqb, eqb-false, ◌≢◌, append-nil, flat_map-cons, nat_tests, common_steps, and_parts, find, is_none, list_all, option_map, HasSkipped, Tables, is_in_none, is_named, names_lacking, table_for}
use Rattle.std.specs.List.{flat_map}
use Rattle.std.proofs.lemmas.List.Kept.{AllPairs-cons, AllPairs-filter}
use Rattle.scf_insn.proofs.Architectures.{number_within}
use Rattle.scf_profile.specs.declared.entry.Entry.{Entry}
use Rattle.scf_profile.specs.Loading.{IsClash}
use Rattle.scf_profile.specs.Profile.{AreInOrder}
use Rattle.scf_profile.specs.Readings.{is_runtime}
use Rattle.scf_profile.proofs.Answering.{conflicts_both_ways}

-- the rule that an entry at an index states by conditions for a number
abbrev rule_for : Architecture → ℕ → List Condition → Answer → ℕ → Rule
rule_for a index conditions answer number = record {
  number = (row_of a).first + number;
  conditions = conditions;
  answer = answer;
  entry = index;
}

-- the rules that an entry at an index states by conditions for names
abbrev rules_for : Architecture → Names → ℕ → List Condition → Answer → List (List ℕ) → List Rule
rules_for a table index conditions answer names = rules_numbered index conditions answer (numbers_named a table names)

-- by each of several lists of conditions
abbrev pub rules_by_each : ℕ → List (List Condition) → Answer → List ℕ → List Rule
rules_by_each index several answer numbers =
    flat_map (λ conditions. rules_numbered index conditions answer numbers) several

-- what holds of the rule for each number that a name has
module _ (a : Architecture) (P : Rule → Type 0) (table : Names) (index : ℕ) (conditions : List Condition)
    (answer : Answer) (each : (name : List ℕ) (number : ℕ) → get table name ≡ Some number
    → P (rule_for a index conditions answer number)) where
  all_named : (names : List (List ℕ)) → All P (rules_for a table index conditions answer names)
  all_named [] = All-nil P
  all_named (name ∷ names) = grind (arith, common_steps, nat_tests, all_named names)

all_unless : (P : Rule → Type 0) (out : Bool) (rules : List Rule) → All P rules → All P (cond out [] rules)
all_unless P out rules h = grind (arith, common_steps, nat_tests, All-nil)

-- what holds of the rules by each list of conditions
all_by_each : (P : Rule → Type 0) (a : Architecture) (table : Names) (index : ℕ) (answer : Answer)
    (names : List (List ℕ)) (several : List (List Condition))
    → All (λ cs. (names : List (List ℕ)) → All P (rules_for a table index cs answer names)) several
    → All P (rules_by_each index several answer (numbers_named a table names))
all_by_each P a table index answer names [] each = All-nil P
all_by_each P a table index answer names (cs ∷ several) each =
    let Q : List Condition → Type 0 =
    λ ds. (names : List (List ℕ)) → All P (rules_for a table index ds answer names) in
    All-append P (rules_for a table index cs answer names) (rules_by_each index several answer (numbers_named a table names))
    (All-head Q cs several each names)
    (all_by_each P a table index answer names several (All-tail Q cs several each))

-- ---- lists of conditions

all_apart : (c : Condition) (cs : List Condition) → list_any (λ d. eqb d.index c.index) cs ≡ false
    → AllByRecursion (λ d. c.index ≢ d.index) cs
all_apart c [] none = tt
all_apart c (d ∷ ds) none =
    let parts = or_parts (eqb d.index c.index) (list_any (λ e. eqb e.index c.index) ds) none in
    (λ same. eqb-false d.index c.index parts.0 (sym same), all_apart c ds parts.1)

distinct_of : (cs : List Condition) → has_repeated_index cs ≡ false → HaveDistinctIndices cs
distinct_of [] none = tt
distinct_of (c ∷ cs) none =
    let parts = or_parts (list_any (λ d. eqb d.index c.index) cs) (has_repeated_index cs) none in
    (all_apart c cs parts.0, distinct_of cs parts.1)

one_fine : (c : Condition) → IsCondition c → AreConditions (c ∷ [])
one_fine c is = record { each = (is, tt); distinct = (tt, tt) }

each_fine : (cs : List Condition) → All IsCondition cs → All AreConditions (map (λ c. c ∷ []) cs)
each_fine [] each = All-nil AreConditions
each_fine (c ∷ cs) each =
    grind (arith, common_steps, All-cons, one_fine, All-head, each_fine cs (All-tail IsCondition c cs each), All-tail)

alternatives_fine : (cs : List Condition) → All IsCondition cs → All AreConditions (alternatives cs)
alternatives_fine cs each = by_test (has_repeated_index cs) refl where
  by_test : (b : Bool) → has_repeated_index cs ≡ b → All AreConditions (cond b (map (λ c. c ∷ []) cs) (cs ∷ []))
  by_test true is = each_fine cs each
  by_test false is = grind (arith, common_steps, nat_tests, All-cons, recursion_from_All, distinct_of, All-nil)

-- a rule is within its ranges, and has the answer of the entry at its index, where these are those from an index on
abbrev IsStated : Architecture → ℕ → List Answer → Rule → Type 0
IsStated a index answers r =
    (k : ℕ) × IsRule a r × (r.entry ≡ index + k) × (r.answer ≡ get_or answers k (record { 0 = 0 }))

all_stated : (out : Option Answer) (a : Architecture) (table : Names) → AreCallNumbers table → (index : ℕ)
    (es : List Entry) → All IsEntry es
    → All (IsStated a index (map (λ e. e.answer) es)) (rules_from out a table index es)
all_stated out a table below index [] h = All-nil (IsStated a index [])
all_stated out a table below index (e ∷ es) h =
    let here : IsEntry e = All-head IsEntry e es h in
    let answers = map (λ (x : Entry). x.answer) es in
    let P = IsStated a index (e.answer ∷ answers) in
    All-append P (rules_of_entry out a table index e) (rules_from out a table (index + 1) es)
    (all_unless P (option_map_or (λ (answer : Answer). eqb answer.0 e.answer.0) out false) _
    (all_by_each P a table index e.answer e.names (alternatives e.conditions)
    (All-weaker AreConditions (λ cs. (names : List (List ℕ)) → All P (rules_for a table index cs e.answer names))
    (λ cs fine. all_named a P table index cs e.answer (λ name number is.
    let rule : IsRule a (rule_for a index cs e.answer number) = record {
      first = omega arith;
      last = number_within a number (below name number is);
      answer = here.answer;
      conditions = fine;
    } in (0, rule, omega arith, refl))) (alternatives e.conditions) (alternatives_fine e.conditions here.conditions))))
    (All-weaker (IsStated a (index + 1) answers) P (λ r h. (suc h.0, h.1, omega (arith, h.2), h.3))
    (rules_from out a table (index + 1) es) (all_stated out a table below (index + 1) es (All-tail IsEntry e es h)))

-- ---- their order

-- the rules of an entry, before those of later ones
in_order_before : (xs ys : List Rule) (index : ℕ) → All (λ r. r.entry ≡ index) xs → All (λ r. index ≤ r.entry) ys
    → AreInOrder ys → AreInOrder (xs ++ ys)
in_order_before [] ys index of_one later order = order
in_order_before (x ∷ xs) ys index of_one later order =
    let here : x.entry ≡ index = All-head (λ (r : Rule). r.entry ≡ index) x xs of_one in
    let rest = All-tail (λ (r : Rule). r.entry ≡ index) x xs of_one in
    let R : Rule → Rule → Type 0 = λ r s. r.entry ≤ s.entry in
    AllPairs-cons R x (xs ++ ys)
    (All-append (R x) xs ys (All-weaker (λ (r : Rule). r.entry ≡ index) (R x) (λ r same. omega (arith, same, here)) xs rest)
    (All-weaker (λ (r : Rule). index ≤ r.entry) (R x) (λ r le. omega (arith, le, here)) ys later))
    (in_order_before xs ys index rest later order)

of_entry : (out : Option Answer) (a : Architecture) (table : Names) (index : ℕ) (e : Entry)
    → All (λ r. r.entry ≡ index) (rules_of_entry out a table index e)
of_entry out a table index e =
    let P : Rule → Type 0 = λ r. r.entry ≡ index in
    all_unless P (option_map_or (λ (answer : Answer). eqb answer.0 e.answer.0) out false) _
    (all_by_each P a table index e.answer e.names (alternatives e.conditions)
    (λ k d lt. all_named a P table index (get_or (alternatives e.conditions) k d) e.answer (λ name number is. refl)))

from_index : (out : Option Answer) (a : Architecture) (table : Names) (index : ℕ) (es : List Entry)
    → All (λ r. index ≤ r.entry) (rules_from out a table index es)
from_index out a table index [] = All-nil (λ (r : Rule). index ≤ r.entry)
from_index out a table index (e ∷ es) =
    let P : Rule → Type 0 = λ r. index ≤ r.entry in
    All-append P (rules_of_entry out a table index e) (rules_from out a table (index + 1) es)
    (All-weaker (λ (r : Rule). r.entry ≡ index) P (λ r same. omega (arith, same)) (rules_of_entry out a table index e)
    (of_entry out a table index e))
    (All-weaker (λ (r : Rule). index + 1 ≤ r.entry) P (λ r le. omega (arith, le)) (rules_from out a table (index + 1) es)
    (from_index out a table (index + 1) es))

stated_in_order : (out : Option Answer) (a : Architecture) (table : Names) (index : ℕ) (es : List Entry)
    → AreInOrder (rules_from out a table index es)
stated_in_order out a table index [] = λ i j d lt inside. absurd (omega (arith, lt, inside))
stated_in_order out a table index (e ∷ es) =
    let later = rules_from out a table (index + 1) es in
    in_order_before (rules_of_entry out a table index e) later index (of_entry out a table index e)
    (All-weaker (λ (r : Rule). index + 1 ≤ r.entry) (λ (r : Rule). index ≤ r.entry) (λ r le. omega (arith, le)) later
    (from_index out a table (index + 1) es))
    (stated_in_order out a table (index + 1) es)

-- ---- one name after another

pub skipped_first : (lacks : List ℕ → Bool) (name : List ℕ) (names : List (List ℕ))
    → filter lacks (name ∷ names) ≡ filter lacks (name ∷ []) ++ filter lacks names
skipped_first lacks name names = filter-append lacks (name ∷ []) names

-- ---- names that a table lacks

all_found : (p : Architecture × Names → Bool) (q : Names → Bool) (ts : Tables) (table : Names)
    → option_map (λ t. t.1) (find p ts) ≡ Some table → list_all (λ t. q t.1) ts ≡ true → q table ≡ true
all_found p q [] table is all = absurd (cc)
all_found p q (t ∷ ts) table is all = grind (arith, common_steps, nat_tests, and_parts, all_found p q ts table)

filtered_twice : (p q : List ℕ → Bool) → ((name : List ℕ) → p name ≡ true → q name ≡ true)
    → (names : List (List ℕ)) → filter p (filter q names) ≡ filter p names
filtered_twice p q more [] = refl
filtered_twice p q more (name ∷ names) = grind (arith, common_steps, nat_tests, more name, filtered_twice p q more names)

-- what no table has is among what one of them lacks
pub skipped_among : (tables : Tables) (a : Architecture) (table : Names) (entries : List Entry) (names : List (List ℕ))
    → table_for tables a ≡ Some table → names ≡ names_lacking table (flat_map (λ e. e.names) entries)
    → HasSkipped tables entries names
skipped_among tables a table entries names is are =
    rw are (filtered_twice (is_in_none tables) (λ name. is_none (get table name))
    (λ name none. all_found (λ t. is_named (row_of a).name t.0) (λ held. is_none (get held name)) tables table is none)
    (flat_map (λ e. e.names) entries))

-- ---- one condition after another

pub by_each_first : (index : ℕ) (cs : List Condition) (several : List (List Condition)) (answer : Answer)
    (numbers : List ℕ) → rules_by_each index (cs ∷ several) answer numbers
    ≡ rules_numbered index cs answer numbers ++ rules_by_each index several answer numbers
by_each_first index cs several answer numbers = grind (arith, common_steps, nat_tests, flat_map-cons)

pub by_one : (index : ℕ) (cs : List Condition) (answer : Answer) (numbers : List ℕ)
    → rules_by_each index (cs ∷ []) answer numbers ≡ rules_numbered index cs answer numbers
by_one index cs answer numbers = append-nil (rules_numbered index cs answer numbers)

pub ruleset conditions_first = (by_each_first, by_one)

-- the rules, where they are few enough
pub stated_rules : (out : Option Answer) (a : Architecture) (table : Names) (es : List Entry) (rules : List Rule)
    → AreCallNumbers table
    → All IsEntry es → rules ≡ rules_from out a table 0 es → length rules ≤ max_rules → AreStatedRules a rules
stated_rules out a table es rules below each is few =
    let answers = map (λ (e : Entry). e.answer) es in
    let all = All-same (IsStated a 0 answers) rules (rules_from out a table 0 es) is
    (all_stated out a table below 0 es each) in
    record {
      few = few;
      each = All-weaker (IsStated a 0 answers) (IsRule a) (λ r h. h.1) rules all;
      one_answer = λ r s has_r has_s same.
          let one = All-contains (IsStated a 0 answers) rules r all has_r in
          let two = All-contains (IsStated a 0 answers) rules s all has_s in
          let at : one.0 ≡ two.0 = omega (arith, one.2, two.2) in
          one.3 ∙ ap (λ (k : ℕ). get_or answers k (record { 0 = 0 })) at ∙ sym two.3;
      in_order = rw is (stated_in_order out a table 0 es);
    }

-- ---- the rules that a reading leaves

filter_stated : (p : Rule → Bool) (a : Architecture) (rules : List Rule) → AreStatedRules a rules
    → AreStatedRules a (filter p rules)
filter_stated p a rules stated =
    let inside : (r : Rule) → Contains (filter p rules) r → Contains rules r =
    λ r. All-contains (Contains rules) (filter p rules) r
    (All-filter p (Contains rules) rules (All-contains_itself rules)) in
    record {
      few = omega (arith, length-filter p rules, count_by-le-length p rules, stated.few);
      each = All-filter p (IsRule a) rules stated.each;
      one_answer = λ r s has_r has_s. stated.one_answer r s (inside r has_r) (inside s has_s);
      in_order = AllPairs-filter (λ (r s : Rule). r.entry ≤ s.entry) p rules stated.in_order;
    }

pub effective_stated : (reading : Reading) (a : Architecture) (rules : List Rule) → AreStatedRules a rules
    → AreStatedRules a (effective_rules reading a rules)
effective_stated reading a rules stated = by_test (is_runtime reading) where
  by_test : (b : Bool) → AreStatedRules a (cond b (filter (is_effective a rules) rules) rules)
  by_test true = filter_stated (is_effective a rules) a rules stated
  by_test false = stated

-- ---- conflicts

module _ (a : Architecture) (rules : List Rule)
    (none : (first second number : ℕ) → EntriesConflict a rules first second number → ⊥) where
  not_before : (r s : Rule) → Contains rules r → Contains rules s → r.entry < s.entry → Conflicts a r s → ⊥
  not_before r s (i, i_lt, i_is) (j, j_lt, j_is) before conflict =
      let clash : IsClash a r s r.entry s.entry r.number =
      record { entry = refl; later_entry = refl; order = before; rule_number = refl; conflict = conflict } in
      none r.entry s.entry r.number (i, r, i_lt, i_is, (j, s, j_lt, j_is, clash))

-- rules of which no two entries conflict
pub have_no_conflict : (a : Architecture) (rules : List Rule) → AreStatedRules a rules
    → ((first second number : ℕ) → EntriesConflict a rules first second number → ⊥) → HaveNoConflict a rules
have_no_conflict a rules stated none r s has_r has_s conflict =
    elim (cases_order r.entry s.entry) [
      | inl same ↦ conflict.answer (stated.one_answer r s has_r has_s same)
      | inr (inl before) ↦ not_before a rules none r s has_r has_s before conflict
      | inr (inr after) ↦ not_before a rules none s r has_s has_r after (conflicts_both_ways a r s conflict)
    ]

pub profile_of_rules : (a : Architecture) (default_answer : Answer) (rules : List Rule) → default_answer.0 < 2 ^ 32
    → AreStatedRules a rules → ((first second number : ℕ) → EntriesConflict a rules first second number → ⊥)
    → IsProfile (record { architecture = a; default_answer = default_answer; rules = rules; stub = None })
profile_of_rules a default_answer rules fits stated none =
    record {
      default_answer = fits;
      few = stated.few;
      each = recursion_from_All (IsRule a) rules stated.each;
      no_conflict = have_no_conflict a rules stated none;
      in_order = stated.in_order;
    }
