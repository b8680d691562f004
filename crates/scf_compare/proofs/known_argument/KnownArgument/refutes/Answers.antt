use Rattle.scf_compare.proofs.Common.{◌≡◌, ◌∙◌, ◌<◌, ◌≤◌, ℕ, List, Some, ap, arith, false, get_or, get_or_from_slice_get, inl, inr, length, ne_eqb, refl, slice_get, slice_get-get_or, slice_get_read, sym, Condition, Rule, common_steps}
use Rattle.std.proofs.lemmas.Bool.{cases_lt}
use Rattle.std.specs.List.{AllWithin}
use Rattle.scf_profile.specs.Condition.{condition_holds}
use Rattle.scf_profile.specs.declared.condition.Operator.TheVariants.{Equal}
use Rattle.scf_profile.specs.NumberRules.{AreRising, first_value}
use Rattle.scf_compare.specs.declared.known_argument.KnownArgument.{KnownArgument}
use Rattle.scf_compare.specs.internal.KnownArguments.{HasHalves, IsRefuted}
use Rattle.scf_compare.proofs.known_argument.KnownArgument.refutes.Goals as goal

fails : (c : Condition) (n : ℕ) → c.op ≡ Equal → (n ≡ c.value → ⊥) → condition_holds c n ≡ false
fails c n equal apart = rw equal (ne_eqb n c.value apart)

-- where no value from a rule's own to a last one is the argument's, so it is with later rules up to that value
refuted_run : (all : List Rule) → AreRising all → (known : KnownArgument) (from k : ℕ) (own r : Rule) (first : Condition)
    (last : ℕ) → slice_get all from ≡ Some own → slice_get own.conditions 0 ≡ Some first → first.index ≡ known.index
    → ((n : ℕ) → HasHalves known n → first.value ≤ n → n ≤ last → ⊥) → from ≤ k → slice_get all k ≡ Some r
    → first_value r ≤ last → IsRefuted known r.conditions
refuted_run all rising known from k own r first last here begins index apart le there up_to =
    let rise = rising from k own r le here there in
    let same : rise.first ≡ first = grind (arith, rise.begins, begins) in
    let within : rise.second.value ≤ last = rw rise.later_begins at up_to in
    record {
      condition = rise.second;
      first = rise.later_begins;
      index = sym rise.index ∙ ap (λ (c : Condition). c.index) same ∙ index;
      fails = λ n has. fails rise.second n rise.later_equal (λ e.
          apart n has (omega (arith, rise.rises, ap (λ (c : Condition). c.value) same, e)) (omega (arith, within, e)));
    }

-- the rule itself is one of those up to that value
begins_before : (all : List Rule) (from behind : ℕ) (own : Rule) (first : Condition) (last : ℕ)
    → slice_get all from ≡ Some own → slice_get own.conditions 0 ≡ Some first → first.value ≤ last
    → from < length all → AllWithin (λ r. last < first_value r) all behind (length all) → from < behind
begins_before all from behind own first last here begins up_to inside past =
    elim (cases_lt from behind) [
      | inl before ↦ before
      | inr after ↦
          let beyond : last < first_value own = rw (get_or_from_slice_get all from own own here) at (past from own after inside) in
          let value : last < first.value = rw begins at beyond in
          absurd (omega (arith, up_to, value))
    ]

module _ (c : goal.After-rules_up_to) where
  here : slice_get c.args.rules.now c.args.from ≡ Some c.index-rules-from.result
  here = slice_get_read c.args.rules.now _ c.args.from c.index-rules-from.result refl c.requires.inside c.index-rules-from.is

  conditions : c.as_slice.result.now ≡ c.index-rules-from.result.conditions
  conditions = c.as_slice.ensures ∙ ap (λ (r : Rule). r.conditions) (sym c.index-rules-from.is)

  before : c.args.from < c.rules_up_to.result
  before =
      grind (arith, common_steps, conditions, begins_before, here, slice_get-get_or)

pub overflow_sub-result : goal.overflow_sub-result
overflow_sub-result c = omega (arith, before c)

pub returns-clause-some : goal.returns-clause-some
returns-clause-some c = omega (arith, before c)

pub returns-clause-refuted : goal.returns-clause-refuted
returns-clause-refuted c = λ k d from lt.
    let all = c.args.rules.now in
    let own = c.index-rules-from.result in
    let refuted = rw (conditions c) at c.in_ok-last-in-len1-up.ensures in
    let some = rw (conditions c) at c.in-len1-up.len_at_least in
    let index = rw (conditions c) at c.if-first-self.true in
    let below : k < c.rules_up_to.result = omega (arith, before c, lt) in
    refuted_run all (c.requires.rising c.if-not-are_rising.false) c.args.self.now c.args.from k own (get_or all k d) _
    c.in_ok-last-in-len1-up.last (here c) (slice_get-get_or own.conditions 0 _ some) index refuted.apart from
    (slice_get-get_or all k d (omega (arith, below, c.rules_up_to.ensures.bound)))
    (c.rules_up_to.ensures.up_to k d (omega arith) below)
