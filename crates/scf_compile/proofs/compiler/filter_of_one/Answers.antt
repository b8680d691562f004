use Rattle.scf_compile.proofs.Common.{◌≡◌, [], arith, ap, Answer, Architecture, Rule, IsRule, nat_tests, common_steps}
use Rattle.scf_compile.proofs.Whole.{IsConstant, whole_filter, whole_may_be_put}
use Rattle.scf_compile.proofs.compiler.filter_of_one.Goals as goal

constant : {a : Architecture} {r : Rule} {answer : Answer} → IsRule a r → r.conditions ≡ [] → r.answer ≡ answer
    → IsConstant a r answer.0
constant rule always is = record { rule = rule; always = always; answer = ap (λ (b : Answer). b.0) is }

pub put_ranges-requires-clause-ranges : goal.put_ranges-requires-clause-ranges
put_ranges-requires-clause-ranges c = grind (arith, common_steps, nat_tests, constant, whole_may_be_put, c.from_ref.ensures.value, c.from_ref-2.ensures.value, c.in_ok-ranges.ensures.ranges, c.architecture-architecture.ensures, c.constant_rule-stub.ensures.rule, c.constant_rule-stub.ensures.always, c.constant_rule-stub.ensures.answer, c.constant_rule-foreign.ensures.rule, c.constant_rule-foreign.ensures.always, c.constant_rule-foreign.ensures.answer, c.deref.ensures.value, c.in_ok-ranges.ensures.profile, c.requires)

pub put_only_gate-requires-clause-few : goal.put_only_gate-requires-clause-few
put_only_gate-requires-clause-few c = grind (arith, common_steps, nat_tests, constant, whole_may_be_put, c.from_ref.ensures.value, c.from_ref-2.ensures.value, c.in_ok-ranges.ensures.ranges, c.architecture-architecture.ensures, c.constant_rule-stub.ensures.rule, c.constant_rule-stub.ensures.always, c.constant_rule-stub.ensures.answer, c.constant_rule-foreign.ensures.rule, c.constant_rule-foreign.ensures.always, c.constant_rule-foreign.ensures.answer, c.in_ok-ranges.ensures.profile, c.requires, c.deref.ensures.value, c.new-code.ensures.items, c.in_ok-put_ranges.ensures)

pub returns : goal.returns
returns c =
    let ranges = rw (c.from_ref.ensures.value, c.from_ref-2.ensures.value) at c.in_ok-ranges.ensures.ranges in
    let stub = constant (rw c.architecture-architecture.ensures at c.constant_rule-stub.ensures.rule)
    c.constant_rule-stub.ensures.always c.constant_rule-stub.ensures.answer in
    let foreign = constant (rw c.architecture-architecture.ensures at c.constant_rule-foreign.ensures.rule)
    c.constant_rule-foreign.ensures.always c.constant_rule-foreign.ensures.answer in
    let put = rw (c.deref.ensures.value, c.new-code.ensures.items) at c.in_ok-put_ranges.ensures in
    let gated = rw (c.audit.ensures, c.architecture-architecture.ensures) at c.in_ok-put_only_gate.ensures in
    rw c.from.ensures.0 (whole_filter _ c.in_ok-ranges.ensures.profile c.requires _ _ stub foreign ranges put
    gated)
