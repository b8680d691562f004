use Rattle.scf_profile.proofs.Common.{◌≡◌, ◌⊎◌, Some, subst, sym, inr, Any, All-more, IsClashBounded, IsClashOf, arith, nat_tests, common_steps}
use Rattle.scf_profile.proofs.LeastClash.{one_of_two}
use Rattle.scf_profile.proofs.conflict.least_with.Goals as goal

pub clash_of-requires-clause-rule : goal.clash_of-requires-clause-rule
clash_of-requires-clause-rule c = grind (arith, common_steps, nat_tests, c.requires.rules)

pub loop-rule-preserved : goal.loop-rule-preserved
loop-rule-preserved c =
    let rules = c.args.rules.now in
    let later = c.args.later.now in
    let i = c.loop-rule.rule-index in
    let Bounded = IsClashBounded c.args.architecture c.lesser-least.result later in
    record {
      one =
          one_of_two (λ d. (c.args.clash ≡ Some d) ⊎ Any (λ r. IsClashOf c.args.architecture r later d) rules)
          (IsClashOf c.args.architecture c.rule-item.result later) c.loop-rule.least c.clash_of.result c.lesser-least.result
          (λ d is. inr (i, c.rule-item.result, c.loop-rule-test.true, sym c.rule-item.is, is))
          c.loop-rule.invariant.one c.clash_of.ensures.some c.lesser-least.ensures.one;
      bounds =
          All-more Bounded rules i c.rule-item.result c.loop-rule-test.true
          (λ k d lt e is. c.lesser-least.ensures.keeps e (c.loop-rule.invariant.bounds k d lt e is))
          (subst Bounded c.rule-item.is (λ d is. c.lesser-least.ensures.bound d (c.clash_of.ensures.all d is)));
      keeps = λ d h. c.lesser-least.ensures.keeps d (c.loop-rule.invariant.keeps d h);
    }
