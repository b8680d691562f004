use Rattle.scf_compile.proofs.Common.{rules, common_steps, ◌≡◌, ◌+◌, ◌-◌, ◌<◌, ◌++◌, ◌∷◌, ℕ, ◌∙◌, List, ap, arith, drop, drop_more, get_or, length, subst, sym, Rule, IsRule, AnswersRules, behind_rule, rule_code, nat_tests}
use Rattle.scf_compile.proofs.RuleCode.{rule_more}
use Rattle.scf_compile.proofs.ValueSearches.{fine_of, values_more, values_small}
use Rattle.scf_compile.proofs.rules.put_rules_before.Goals as goal

pub put_values-requires-clause-fine : goal.put_values-requires-clause-fine
put_values-requires-clause-fine c = grind (arith, common_steps, nat_tests, fine_of, c.in_ok-values.ensures)

pub put_values-requires-clause-small : goal.put_values-requires-clause-small
put_values-requires-clause-small c = grind (arith, common_steps, nat_tests, values_small, c.in_ok-values.ensures, c.requires.few, c.requires.small)

pub returns-then-not-is_empty-clause-put : goal.returns-then-not-is_empty-clause-put
returns-then-not-is_empty-clause-put c = λ default next.
    let a = c.args.architecture in
    let vs = c.in_ok-values.values.items in
    let values = c.in_ok-values.ensures in
    let some : 0 < length vs = grind (arith, common_steps) in
    let len : c.len.result ≡ length vs = search rules in
    let start : c.args.end - length vs ≡ c.args.end - c.len.result = omega arith in
    subst (λ (n : ℕ). AnswersRules a default (drop n c.args.rules.now) c.put_values.new.code.items) start
    (rw values.whole (values_more a default values.argument vs values.value_rules (drop c.args.end c.args.rules.now)
    values.each some c.in_ok-put_values.ensures next))

pub returns-clause-put : goal.returns-clause-put
returns-clause-put c = λ default next.
    let a = c.args.architecture in
    let rs = c.args.rules.now in
    let end = c.args.end in
    let code = c.args.code.now.items in
    let r = c.index-rules-end.result in
    let here : r ≡ get_or rs (end - 1) r = c.index-rules-end.is in
    let fine : IsRule a r = subst (λ (q : Rule). IsRule a q) (sym here) (c.requires.fine (end - 1) r (omega arith)) in
    let next_index : end - 1 + 1 ≡ end = omega arith in
    let whole : r ∷ drop end rs ≡ drop (end - 1) rs =
    sym (drop_more rs (end - 1) r (omega arith) ∙ ap (λ (q : Rule). q ∷ drop (end - 1 + 1) rs) (sym here)
    ∙ ap (λ (n : ℕ). r ∷ drop n rs) next_index) in
    let put : c.put_rule.new.code.items ≡ rule_code a r ++ behind_rule r.conditions code = search rules in
    let placed : AnswersRules a default (r ∷ drop end rs) c.put_rule.new.code.items =
    rw put (rule_more a default r (drop end rs) code fine next) in
    subst (λ (qs : List Rule). AnswersRules a default qs c.put_rule.new.code.items) whole placed
