use Rattle.scf_profile.proofs.Common.{rules, tests, sym, subst, take_all, both_ways, All-more, All-same, IsPlainRule}
use Rattle.scf_profile.proofs.profile.are_plain.Goals as goal

pub returns-then-not-is_plain : goal.returns-then-not-is_plain
returns-then-not-is_plain c = (
  λ no. absurd (cc),
  λ all. absurd (both_ways _ c.if-not-is_plain.true
      (c.is_plain.ensures.1
      (subst IsPlainRule (sym c.rule-item.is) (all c.loop-rule.rule-index c.rule-item.result c.loop-rule-test.true)))),
)

pub loop-rule-preserved : goal.loop-rule-preserved
loop-rule-preserved c =
    All-more IsPlainRule c.args.rules.now c.loop-rule.rule-index c.rule-item.result c.loop-rule-test.true
    c.loop-rule.invariant (subst IsPlainRule c.rule-item.is (c.is_plain.ensures.0 (search (rules, tests))))

pub returns : goal.returns
returns c = (
  λ yes. All-same IsPlainRule c.args.rules.now _ (sym (take_all _ _ c.loop-rule-test.false)) c.loop-rule.invariant,
  λ all. search (rules, tests),
)
