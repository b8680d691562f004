-- The least of clashes, rule by rule.
use Rattle.scf_profile.proofs.Common.{◌≡◌, ℕ, length, List, Option, Some, None, All, ◌⊎◌, inl, inr, sym, eqb, arith, refl, get_or, Any, IfSome, Contains, eq-eqb, nat_tests, All-contains, All-contains_itself, Architecture, Clash, NumberRules, AreNumbersOf, ap, ◌∙◌, Rule, IsBoundedBy, IsClashBounded, IsLeastClash, EntriesConflict, Conflicts, rules_of, common_steps}
use Rattle.scf_profile.proofs.Numbers.{contains_filtered}
use Rattle.scf_profile.proofs.NumberLists.{number_among, own_all, with_own}

-- one of two
pub one_of_two : (P Q : Clash → Type 0) (first second least : Option Clash) → ((c : Clash) → Q c → P c)
    → IfSome first P → IfSome second Q → (least ≡ first) ⊎ (least ≡ second) → IfSome least P
one_of_two P Q first second least h h2 h3 h4 = grind (arith, common_steps, nat_tests)

same_number : (a : Architecture) (r s : Rule) → Conflicts a r s → r.number ≡ s.number
same_number a r s conflict = grind (arith, nat_tests, conflict.meets_first, conflict.meets_second)

-- the least of one that was known and others
pub one_more : (P Q : Clash → Type 0) (least more : Option Clash) → ((c : Clash) → Q c → P c) → IfSome least P
    → IfSome more (λ c. (least ≡ Some c) ⊎ Q c) → IfSome more P
one_more P Q least more h h2 h3 = grind (arith, common_steps, nat_tests)

-- what is bounded stays so by a lesser clash
pub still_bounded : (a : Architecture) (least more : Option Clash) → ((c : Clash) → IsBoundedBy least c → IsBoundedBy more c)
    → (rules laters : List Rule) → All (λ later. All (IsClashBounded a least later) rules) laters
    → All (λ later. All (IsClashBounded a more later) rules) laters
still_bounded a least more keeps rules laters all k d lt j e inside c is = keeps c (all k d lt j e inside c is)

abbrev pub AreBounded : Architecture → List Rule → Option Clash → Type 0
AreBounded a rules least = All (λ later. All (IsClashBounded a least later) rules) rules

bounded : (a : Architecture) (rules : List Rule) (least : Option Clash) → AreBounded a rules least → (first second number : ℕ)
    → EntriesConflict a rules first second number
    → IsBoundedBy least (record { second = second; first = first; number = number })
bounded a rules least all first second number conflict = grind (arith, common_steps, nat_tests)

pub least_found : (a : Architecture) (rules : List Rule) (least : Option Clash) → AreBounded a rules least
    → IfSome least (λ c. EntriesConflict a rules c.first c.second c.number) → IsLeastClash a rules least
least_found a rules None all clash = bounded a rules None all
least_found a rules (Some c) all clash = record {
  conflict = clash;
  least_second = λ f s n e. (bounded a rules (Some c) all f s n e).second;
  least_first = λ f n e. (bounded a rules (Some c) all f c.second n e).first refl;
  least_number = λ n e. (bounded a rules (Some c) all c.first c.second n e).number refl refl;
}

-- ---- the rules of each number

module _ (a : Architecture) (numbers : List NumberRules) (rules : List Rule) (are : AreNumbersOf numbers rules) where
  among : (group : NumberRules) → Contains numbers group → (r : Rule) → r.number ≡ group.number → Contains rules r
      → Contains group.rules.items r
  among group has r same inside =
      rw (All-contains (λ (o : NumberRules). o.rules.items ≡ rules_of o.number rules) numbers group are.own has)
      (contains_filtered (λ (s : Rule). eqb s.number group.number) rules r (eq-eqb r.number group.number same) inside)

  -- clashes among rules of one number are all
  pub all_bounded : (least : Option Clash) → All (λ group. AreBounded a group.rules.items least) numbers
      → AreBounded a rules least
  all_bounded least bounds k d lt j e inside c clash =
      let later = get_or rules k d in
      let r = get_or rules j e in
      let here = All-contains_itself rules k d lt in
      elim (number_among numbers rules are later.number) [
        | inl (group, has, is) ↦
            let same = same_number a r later clash.conflict ∙ sym is in
            let one = among group has r same (All-contains_itself rules j e inside) in
            let two = among group has later (sym is) here in
            bounded a group.rules.items least
            (All-contains (λ (o : NumberRules). AreBounded a o.rules.items least) numbers group bounds has) _ _ _
            (one.0, r, one.1, one.2, (two.0, later, two.1, two.2, clash))
        | inr none ↦ absurd
            (let some = with_own rules k d lt in
            let nothing = ap (λ (rs : List Rule). length rs) none in omega (arith, some))
      ]

  pub all_found : (least : Option Clash)
      → IfSome least (λ c. Any (λ group. EntriesConflict a group.rules.items c.first c.second c.number) numbers)
      → IfSome least (λ c. EntriesConflict a rules c.first c.second c.number)
  all_found None h = tt
  all_found (Some c) (k, group, lt, is, (i, r, i_lt, i_is, (j, later, j_lt, j_is, clash))) =
      let all = rw is at (own_all numbers rules are (Contains rules) (All-contains_itself rules) k group lt) in
      let inside : (s : Rule) → Contains group.rules.items s → Contains rules s =
      λ s. All-contains (Contains rules) group.rules.items s all in
      let one = inside r (i, i_lt, i_is) in
      let two = inside later (j, j_lt, j_is) in
      (one.0, r, one.1, one.2, (two.0, later, two.1, two.2, clash))
