-- A profile's numbers: which rules a call can still meet, and how many steps the numbers take.
use Rattle.scf_compare.proofs.Common.{drop-drop, take, ◌∷◌, ◌∙◌, Architecture, ◌-◌, ◌≡◌, ◌≢◌, ℕ, ◌+◌, ◌*◌, ◌<◌, ◌≤◌, suc, zero, false, true, eqb, List, [], Some, length, map, drop, get_or, refl, sym, ap, arith, inl, inr, slice_get, slice_get-get_or, slice_get-map, slice_get_within, get_or_from_slice_get, get_or-take, length-take, take_all, eqb-true, All, All-contains, All-contains_itself, All-filter, filter_passes, contains_filtered, Contains, CallRecord, Condition, NotEqual, NumberRules, Rule, ProfileAnswers, by_rule, by_default, meets, rules_of, AreNumbersOf, number_among, numbers_rise, sum_of_own, sum_by-drop_more, sum_by-take-drop, conditions_size, rules_size, numbers_size, own_conditions, own_rules, size_behind, IsAtCondition, IsAtRule, IsFrom, ConditionPosition, IsNumbered, NumberedProfile}
use Rattle.scf_profile.specs.Profile.{Profile}
use Rattle.scf_compare.specs.Effort.{spread, stub_size}
use Rattle.std.proofs.Math.ListN.{get_or-map}
use Rattle.std.proofs.lemmas.Bool.{cases_order}
use Rattle.std.proofs.lemmas.List.{length-map}
use Rattle.std.proofs.lemmas.List.Elements.{All-map}
use Rattle.std.proofs.lemmas.List.Kept.{AllPairs-filter}
use Rattle.std.specs.List.{AllWithin, filter}
use Rattle.scf_profile.specs.Profile.{AreInOrder}
use Rattle.scf_profile.specs.Reasons.{IsReason, entries_met}
use Rattle.scf_profile.specs.declared.reason.Reason.{Reason}
use Rattle.scf_profile.specs.declared.reason.Reason.TheVariants.{Default, Entry, Foreign, Stub}
use Rattle.scf_compare.specs.declared.origin.Origin.TheVariants.{Profile as OfReason}
use Rattle.scf_compare.specs.declared.profile.ProfileNode.TheVariants.{Answer as Answers}
use Rattle.scf_compare.proofs.Rules.{all_more, conditions_more, contains_here, fails_by, rules_more, unmet_apart}
use Rattle.scf_compare.specs.declared.known_argument.KnownArgument.{KnownArgument}
use Rattle.scf_compare.specs.internal.KnownArguments.{HasHalves, IsRefuted}
use Rattle.scf_insn.specs.Architectures.{argument_in}
use Rattle.scf_profile.specs.Condition.{condition_holds}
use Rattle.scf_insn.specs.declared.answer.Answer.{Answer}
use Rattle.scf_compare.specs.internal.Laws.{profile_node_counts}
use Rattle.scf_compare.specs.internal.Profiles.{IsLeftToRules, profile_size}
use Rattle.scf_compare.proofs.Bits.{word_answers}
use Rattle.scf_profile.specs.ProfileAnswers.{by_stub, foreign}

-- ---- what is read

-- what is mapped of an element that stands there
mapped_here : {X Y : Type 0} (f : X → Y) (xs : List X) (index : ℕ) (x : X) (none : Y) → slice_get xs index ≡ Some x
    → get_or (map f xs) index none ≡ f x
mapped_here f xs index x none here = get_or_from_slice_get _ index (f x) none (rw (slice_get-map, here))

pub own_read : (numbers : List NumberRules) (index : ℕ) (own : NumberRules) → slice_get numbers index ≡ Some own
    → own_rules numbers index ≡ own.rules.items
own_read numbers index own here = mapped_here (λ (o : NumberRules). o.rules.items) numbers index own [] here

pub conditions_read : (numbers : List NumberRules) (at : ConditionPosition) (rule : Rule)
    → slice_get (own_rules numbers at.number) at.rule ≡ Some rule → own_conditions numbers at ≡ rule.conditions
conditions_read numbers at rule here =
    mapped_here (λ (r : Rule). r.conditions) (own_rules numbers at.number) at.rule rule [] here

-- what holds of each element holds of one that stands there
pub at_index : {X : Type 0} (P : X → Type 0) (xs : List X) (index : ℕ) (x : X) → All P xs → slice_get xs index ≡ Some x
    → P x
at_index P xs index x all here = All-contains P xs x all (contains_here xs index x here)

-- some rule, and the condition that a read past the end of conditions gives
abbrev pub no_rule : Rule
no_rule = record { number = 0; conditions = []; answer = record { 0 = 0 }; entry = 0 }

abbrev pub no_condition : Condition
no_condition = record { index = 0; op = NotEqual; value = 0; value_two = 0 }

-- ---- what a profile answers

-- the rules of a number that stands there are those of it
pub own_kept : (s : NumberedProfile) → IsNumbered s → (index : ℕ) (own : NumberRules)
    → slice_get s.numbers index ≡ Some own → own_rules s.numbers index ≡ rules_of own.number s.profile.rules
own_kept s numbered index own here =
    rw (own_read s.numbers index own here)
    (at_index (λ (o : NumberRules). o.rules.items ≡ rules_of o.number s.profile.rules) s.numbers index own
    numbered.numbers.own here)

-- the rules of a number are rules, and have it
own_rule : (nr : ℕ) (rules : List Rule) (r : Rule) → Contains (rules_of nr rules) r → Contains rules r × (r.number ≡ nr)
own_rule nr rules r has = (
  All-contains (Contains rules) (rules_of nr rules) r
      (All-filter (λ (q : Rule). eqb q.number nr) (Contains rules) rules (All-contains_itself rules)) has,
  eqb-true r.number nr
      (All-contains (λ q. eqb q.number nr ≡ true) (rules_of nr rules) r
      (filter_passes (λ (q : Rule). eqb q.number nr) rules) has),
)

-- what is mapped of an element is among what is mapped
contains_mapped : {X Y : Type 0} (f : X → Y) (xs : List X) (x : X) → Contains xs x → Contains (map f xs) (f x)
contains_mapped f xs x (k, inside, is) = (k, omega (arith, inside, length-map xs f), get_or-map f xs k x ∙ ap f is)

-- what holds of each rule that a call meets
each_met : (a : Architecture) (call : CallRecord) (rules : List Rule) (P : Rule → Type 0)
    → ((r : Rule) → Contains rules r → meets a r call ≡ true → P r) → All P (filter (λ r. meets a r call) rules)
each_met a call rules P holds k d inside =
    let is_met = λ (r : Rule). meets a r call in
    holds (get_or (filter is_met rules) k d)
    (All-filter is_met (Contains rules) rules (All-contains_itself rules) k d inside)
    (filter_passes is_met rules k d inside)

no_entry_met : (a : Architecture) (call : CallRecord) (rules : List Rule)
    → ((r : Rule) → Contains rules r → meets a r call ≡ false) → entries_met a rules call ≡ []
no_entry_met a call rules none = ap (map (λ (r : Rule). r.entry)) (empty (filter (λ r. meets a r call) rules)
    (each_met a call rules (λ r. ⊥) (λ r has met. absurd (grind (arith, met, none r has)))))
  where
    empty : (met : List Rule) → All (λ r. ⊥) met → met ≡ []
    empty [] all = refl
    empty (r ∷ met) all = absurd (all 0 r (omega arith))

-- a rule that a call meets is one of its number
met_among : (a : Architecture) (call : CallRecord) (rules : List Rule) (r : Rule) → Contains rules r
    → meets a r call ≡ true → Contains (rules_of call.nr rules) r
met_among a call rules r has met =
    contains_filtered (λ (q : Rule). eqb q.number call.nr) rules r (grind (arith, met, unmet_apart)) has

-- no rule that a call meets is of an earlier entry than the first of its number that it meets
first_of_met : (a : Architecture) (call : CallRecord) (rules : List Rule) (index : ℕ) (r q : Rule) → AreInOrder rules
    → slice_get (rules_of call.nr rules) index ≡ Some r
    → All (λ earlier. meets a earlier call ≡ false) (take index (rules_of call.nr rules))
    → Contains rules q → meets a q call ≡ true → r.entry ≤ q.entry
first_of_met a call rules index r q order here unmet has met =
    let own = rules_of call.nr rules in
    let (k, inside, is) = met_among a call rules q has met in
    let own_order = AllPairs-filter (λ (x y : Rule). x.entry ≤ y.entry) (λ (x : Rule). eqb x.number call.nr) rules order in
    let within = slice_get_within own index r here in
    elim (cases_order k index) [
      | inl same ↦ grind (arith, same, is, get_or_from_slice_get own index r q here)
      | inr (inl before) ↦ absurd (grind (arith, met, is, unmet k q, get_or-take, length-take, before, within))
      | inr (inr after) ↦ grind (arith, own_order index k q after inside, is, get_or_from_slice_get own index r q here)
    ]

module _ (s : NumberedProfile) (call : CallRecord) where
  -- a rule that the call is at, all of whose conditions hold of it
  pub by_own_rule : (at : ConditionPosition) (r : Rule) → AreInOrder s.profile.rules → IsAtCondition s at call
      → slice_get (own_rules s.numbers at.number) at.rule ≡ Some r → length r.conditions ≤ at.condition
      → ProfileAnswers s.profile call r.answer.0 × IsReason s.profile call (Entry r.entry)
  by_own_rule at r order is here all =
      let own = own_rule call.nr s.profile.rules r
      (rw is.at_rule.own (contains_here (own_rules s.numbers at.number) at.rule r here)) in
      let held = rw (conditions_read s.numbers at r here, take_all at.condition r.conditions all) at is.held in
      let met : meets s.profile.architecture r call ≡ true = grind arith in
      let left = is.at_rule.by_rules in (
        by_rule r left.is_of left.not_stubbed own.0 met,
        (
          left.is_of,
          left.not_stubbed,
          contains_mapped (λ (q : Rule). q.entry) _ r
              (contains_filtered (λ (q : Rule). meets s.profile.architecture q call) s.profile.rules r met own.0),
          All-map (λ (entry : ℕ). r.entry ≤ entry) (λ (q : Rule). q.entry) _ (each_met s.profile.architecture call s.profile.rules
              (λ (q : Rule). r.entry ≤ q.entry) (λ q has met_too. first_of_met s.profile.architecture call s.profile.rules
              at.rule r q order (rw is.at_rule.own here) (rw is.at_rule.own is.at_rule.unmet) has met_too)),
        ),
      )

  -- a call that meets none of the rules of its number
  unmet_own : IsLeftToRules s.profile call
      → All (λ r. meets s.profile.architecture r call ≡ false) (rules_of call.nr s.profile.rules)
      → ProfileAnswers s.profile call s.profile.default_answer.0 × IsReason s.profile call Default
  unmet_own left unmet =
      let none = λ (r : Rule) (has : Contains s.profile.rules r).
      let among = contains_filtered (λ (q : Rule). eqb q.number call.nr) s.profile.rules r in
      let unmet_one = All-contains (λ q. meets s.profile.architecture q call ≡ false)
      (rules_of call.nr s.profile.rules) r unmet in
      let unmet_r : meets s.profile.architecture r call ≡ false = grind (arith, among, unmet_one, unmet_apart) in
      unmet_r in
      (by_default left.is_of left.not_stubbed none, (left.is_of, left.not_stubbed, no_entry_met s.profile.architecture call s.profile.rules none))

  -- a call past the last rule of its number
  pub past_rules : (number rule : ℕ) → IsAtRule s number rule call → length (own_rules s.numbers number) ≤ rule
      → ProfileAnswers s.profile call s.profile.default_answer.0 × IsReason s.profile call Default
  past_rules number rule is past = unmet_own is.by_rules (grind (arith, take_all))

  -- a call with none of the numbers
  pub of_no_number : IsNumbered s → IsLeftToRules s.profile call → All (λ own. call.nr ≢ own.number) s.numbers
      → ProfileAnswers s.profile call s.profile.default_answer.0 × IsReason s.profile call Default
  of_no_number numbered left apart = elim (number_among s.numbers s.profile.rules numbered.numbers call.nr) [
    | inl (own, has, same) ↦ absurd (All-contains (λ o. call.nr ≢ o.number) s.numbers own apart has (sym same))
    | inr none ↦ unmet_own left (rw none (λ k d lt. absurd (omega arith)))
  ]

-- ---- which rules are passed

module _ (rules : List Rule) (index : ℕ) (r : Rule) (here : slice_get rules index ≡ Some r) (known : KnownArgument)
    (refuted : IsRefuted known r.conditions) where
  -- a call whose argument refutes a rule is at the next one
  at_next : (s : NumberedProfile) (number argument : ℕ) (call : CallRecord) → own_rules s.numbers number ≡ rules
      → known.index ≡ argument → HasHalves known (argument_in s.profile.architecture call argument)
      → IsAtRule s number index call → IsAtRule s number (index + 1) call
  at_next s number argument call own same has at =
      let fails : condition_holds refuted.condition (argument_in s.profile.architecture call refuted.condition.index) ≡ false =
      rw (refuted.index ∙ same) (refuted.fails _ has) in
      record {
        by_rules = at.by_rules;
        own = at.own;
        unmet = rw own (all_more (λ earlier. meets s.profile.architecture earlier call ≡ false) rules index r here
            (rw own at at.unmet)
            (grind (arith, fails_by s.profile.architecture call r.conditions 0 refuted.condition refuted.first fails)));
      }

  -- and costs two steps less
  costs_less : rules_size (drop (index + 1) rules) + 2 ≤ rules_size (drop index rules)
  costs_less = omega (
    arith,
    rules_more rules index r here,
    conditions_more r.conditions 0 refuted.condition (rules_size (drop (index + 1) rules)) refuted.first,
  )

-- so many rules from one on are refuted
module _ (rules : List Rule) (r : Rule) (known : KnownArgument) (index : ℕ) where
  none : index + 0 ≡ index
  none = omega arith

  one_more : (count : ℕ) → index + suc count ≡ index + count + 1
  one_more count = omega arith

  pub at_later : (s : NumberedProfile) (number argument : ℕ) (call : CallRecord) → own_rules s.numbers number ≡ rules
      → known.index ≡ argument → HasHalves known (argument_in s.profile.architecture call argument)
      → IsAtRule s number index call → (count : ℕ) → index + count ≤ length rules
      → AllWithin (λ rule. IsRefuted known rule.conditions) rules index (index + count)
      → IsAtRule s number (index + count) call
  at_later s number argument call own same has at zero inside refuted = rw none at
  at_later s number argument call own same has at (suc count) inside refuted =
      let here = slice_get-get_or rules (index + count) r (omega arith) in
      let before = at_later s number argument call own same has at count (omega arith)
      (λ k d from lt. refuted k d from (omega arith)) in
      rw (one_more count) (at_next rules (index + count) _ here known
      (refuted (index + count) r (omega arith) (omega arith)) s number argument call own same has before)

  pub costs_fewer : (count : ℕ) → index + count ≤ length rules
      → AllWithin (λ rule. IsRefuted known rule.conditions) rules index (index + count)
      → rules_size (drop (index + count) rules) + 2 * count ≤ rules_size (drop index rules)
  costs_fewer zero inside refuted = rw none (omega arith)
  costs_fewer (suc count) inside refuted =
      let here = slice_get-get_or rules (index + count) r (omega arith) in
      let less = costs_less rules (index + count) _ here known (refuted (index + count) r (omega arith) (omega arith)) in
      let fewer = costs_fewer count (omega arith) (λ k d from lt. refuted k d from (omega arith)) in
      rw (one_more count) (omega (arith, less, fewer))

-- ---- answers to calls of other architectures

-- an answer node is foreign where its reason is, and has the size of what is asked of those calls
pub foreign_size : (s : NumberedProfile) (answer : Answer) (reason : Reason) (others : ℕ)
    → OfReason reason ≡ OfReason Foreign → others ≤ profile_size s others (Answers answer reason)
foreign_size s answer Foreign others e = omega arith
foreign_size s answer Stub others e = cc
foreign_size s answer (Entry index) others e = cc
foreign_size s answer Default others e = cc

-- ---- which numbers a call can still have

module _ (numbers : List NumberRules) (rules : List Rule) (are : AreNumbersOf numbers rules) (call : CallRecord)
    (index : ℕ) (own : NumberRules) (here : slice_get numbers index ≡ Some own) where
  -- a number that isn't below one has none of those before it
  pub from_number : own.number ≤ call.nr → IsFrom index numbers call
  from_number least k d lt =
      let within = slice_get_within numbers index own here in
      let same = get_or_from_slice_get numbers index own d here in
      grind (arith, within, same, length-take, get_or-take, numbers_rise numbers rules are k index d)

  -- one that has none before a number, and is below that one, has none
  pub from_above : IsFrom index numbers call → call.nr < own.number → All (λ o. call.nr ≢ o.number) numbers
  from_above from above k d lt =
      let before = from k d in
      let rise = numbers_rise numbers rules are index k d in
      let same = get_or_from_slice_get numbers index own d here in
      grind (arith, before, rise, same, get_or-take, length-take)

-- ---- how many steps the numbers take

-- what the numbers add to the spread
pub numbers_spread : (numbers : List NumberRules) (p : Profile) → AreNumbersOf numbers p.rules
    → 8 + stub_size p.stub + numbers_size numbers ≡ spread p
numbers_spread numbers p are =
    ap (λ n. 8 + stub_size p.stub + n) (sum_of_own numbers p.rules are (λ (own : List Rule). 1 + rules_size own))

-- the rules of a number from one on
pub rule_size : (numbers : List NumberRules) (at : ConditionPosition) → at.rule < length (own_rules numbers at.number)
    → conditions_size (own_conditions numbers at) (size_behind numbers at)
    ≡ rules_size (drop at.rule (own_rules numbers at.number))
rule_size numbers at inside =
    let here = slice_get-get_or (own_rules numbers at.number) at.rule no_rule inside in
    grind (arith, conditions_read numbers at _ here, rules_more (own_rules numbers at.number) at.rule _ here)

sizes_fewer : (numbers : List NumberRules) (index from : ℕ) → index ≤ from
    → numbers_size (drop from numbers) ≤ numbers_size (drop index numbers)
sizes_fewer numbers index from le =
    let size = λ (own : NumberRules). 1 + rules_size own.rules.items in
    grind (arith, sum_by-take-drop size (drop index numbers) (from - index), drop-drop (from - index) index numbers)

-- the rules of a number, and what is behind it, of the numbers from an index on
pub sizes_from : (numbers : List NumberRules) (index from : ℕ) (own : NumberRules) → index ≤ from
    → slice_get numbers from ≡ Some own
    → 1 + rules_size (own_rules numbers from) + numbers_size (drop (from + 1) numbers)
    ≤ numbers_size (drop index numbers)
sizes_from numbers index from own le here =
    let f = λ (o : NumberRules). 1 + rules_size o.rules.items in
    let more = sum_by-drop_more f numbers from own (slice_get_within numbers from own here) in
    grind (arith, own_read, get_or_from_slice_get numbers from own own here, sizes_fewer numbers index from le, more)

-- what the steps of a profile's tree rest on
pub ruleset steps_of_profile = (word_answers, foreign, by_stub, foreign_size, profile_node_counts)
