use Rattle.scf_compare.proofs.Common.{◌≡◌, ◌+◌, ◌*◌, arith, conditions_size, drop, own_conditions, refl, size_behind, slice_get-get_or, common_steps}
use Rattle.scf_compare.proofs.Rules.{conditions_more}
use Rattle.scf_compare.proofs.Numbered.{no_condition, rule_size}
use Rattle.scf_compare.specs.declared.profile.ProfileNode.TheVariants.{Condition as OfCondition}
use Rattle.scf_compare.specs.declared.question.ConditionPart.TheVariants.{High}
use Rattle.scf_compare.specs.internal.Profiles.{StandsAt, size_of_rest}
use Rattle.scf_compare.proofs.by_number.ByNumber.pass_from.Goals as goal

pub returns-in-Condition-default-High : goal.returns-in-Condition-default-High
returns-in-Condition-default-High g c =
    let numbers = c.args.self.now.numbers in
    let at = c.in-Condition-default-High.at in
    let node : c.args.node.now ≡ OfCondition at High = grind arith in
    let stands : StandsAt numbers at = rw node at c.requires in
    let conditions = own_conditions numbers at in
    let behind = size_behind numbers at in
    let here = slice_get-get_or conditions at.condition no_condition stands.condition in
    let all : drop at.condition conditions ≡ conditions = rw c.if-at-eq0.true refl in
    let whole : conditions_size conditions behind ≡ 3 + 2 * size_of_rest numbers at + 2 * behind =
    rw all at (conditions_more conditions at.condition _ behind here) in
    let passed = c.pass_rules-rule.ensures in
    let rules = rule_size numbers at stands.rule in
    grind (arith, common_steps, c.next_rule.ensures.reached, passed.met)
