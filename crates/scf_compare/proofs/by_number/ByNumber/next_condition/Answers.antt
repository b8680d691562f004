use Rattle.scf_compare.proofs.Common.{◌≡◌, ap, arith, length, slice_get, Some, slice_get-get_or, call_of, own_conditions, size_behind, slice_index_or}
use Rattle.scf_compare.proofs.Rules.{conditions_more}
use Rattle.scf_compare.proofs.Numbered.{by_own_rule, no_condition}
use Rattle.scf_compare.proofs.by_number.ByNumber.next_condition.Goals as goal

-- a condition stands there
here : (c : goal.Then-at-as_slice)
    → slice_get (own_conditions c.args.self.now.numbers c.args.at) c.args.at.condition
    ≡ Some (slice_index_or (own_conditions c.args.self.now.numbers c.args.at) c.args.at.condition no_condition)
here c =
    let count = ap length c.rule_at-rule.ensures.conditions in
    slice_get-get_or (own_conditions c.args.self.now.numbers c.args.at) c.args.at.condition no_condition
    (omega (arith, count, ap length c.as_slice.ensures, c.if-at-as_slice.true))

pub returns-then-at-as_slice-clause-reached : goal.returns-then-at-as_slice-clause-reached
returns-then-at-as_slice-clause-reached c = λ words at.
    record { at_condition = at; condition = _; here = here c; known = tt }

pub returns-then-at-as_slice-clause-size : goal.returns-then-at-as_slice-clause-size
returns-then-at-as_slice-clause-size c = λ others.
    let numbers = c.args.self.now.numbers in
    let conditions = own_conditions numbers c.args.at in
    omega (arith, conditions_more conditions c.args.at.condition _ (size_behind numbers c.args.at) (here c))

pub returns-else-at-as_slice-clause-reached : goal.returns-else-at-as_slice-clause-reached
returns-else-at-as_slice-clause-reached c = λ words at.
    by_own_rule c.args.self.now (call_of words) c.args.at _ c.rule_at-rule.ensures.order at
    c.rule_at-rule.ensures.stands
    (omega (arith, ap length c.as_slice.ensures, c.if-at-as_slice.false))
