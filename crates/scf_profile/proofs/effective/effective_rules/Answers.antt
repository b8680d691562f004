use Rattle.scf_profile.proofs.Common.{◌≡◌, ◌∙◌, ap, rules, true, Bool, option_map, option_map_or, eqb, nat_cmp, Option, Rule, Answer, is_effective, common_steps, arith, nat_tests}
use Rattle.std.specs.BTreeMap.{get}
use Rattle.std.proofs.lemmas.Fn.{filter_same}
use Rattle.scf_profile.proofs.effective.effective_rules.Goals as goal

-- a rule answers as the first one, if there is one
abbrev as_first : Rule → Option Answer → Bool
as_first r first = option_map_or (λ (a : Answer). eqb a.0 r.answer.0) first true

of_rule : (r : Rule) (first : Option Rule) → as_first r (option_map (λ (s : Rule). s.answer) first)
    ≡ option_map_or (λ (s : Rule). eqb s.answer.0 r.answer.0) first true
of_rule r first = grind (arith, common_steps, nat_tests)

pub returns : goal.returns
returns c =
    let kept = filter_same _ (is_effective c.args.architecture c.args.rules.items) _ (λ r b f called. (
      let tested : b ≡ as_first r (get nat_cmp c.in_ok-answers.answers r.number) = search rules in
          let first = rw c.deref.ensures.value at (c.in_ok-answers.ensures r.number) in
          tested ∙ ap (as_first r) first ∙ of_rule r _,
      search rules,
    )) _ _ c.retain.ensures.filtered in
    grind (arith, common_steps, kept)
