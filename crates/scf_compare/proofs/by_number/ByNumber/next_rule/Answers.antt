use Rattle.scf_compare.proofs.Common.{ConditionPosition, ◌≤◌, arith, ap, length, call_of, own_rules}
use Rattle.scf_compare.proofs.Numbered.{past_rules, rule_size}
use Rattle.scf_compare.proofs.by_number.ByNumber.next_rule.Goals as goal

pub returns-then-rule-rules_at-clause-size : goal.returns-then-rule-rules_at-clause-size
returns-then-rule-rules_at-clause-size c = λ others.
    let numbers = c.args.self.now.numbers in
    let at : ConditionPosition = record { number = c.args.number; rule = c.args.rule; condition = 0 } in
    rw (← rule_size numbers at (omega (arith, c.if-rule-rules_at.true, ap length c.rules_at.ensures.rules)))
    (c.next_condition.ensures.size others)

pub returns-else-rule-rules_at-clause-reached : goal.returns-else-rule-rules_at-clause-reached
returns-else-rule-rules_at-clause-reached c = λ words at.
    let past : length (own_rules c.args.self.now.numbers c.args.number) ≤ c.args.rule =
    omega (arith, c.if-rule-rules_at.false, ap length c.rules_at.ensures.rules) in
    rw (c.default_answer.ensures, c.profile.ensures)
    (past_rules c.args.self.now (call_of words) c.args.number c.args.rule at past)
