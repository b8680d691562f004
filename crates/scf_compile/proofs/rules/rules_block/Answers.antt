use Rattle.scf_compile.proofs.Common.{auto_rules, ◌≡◌, [], ◌∷◌, AllByRecursion, IsPlainRule, arith, drop, length, length-drop, nil_from_length, return_with}
use Rattle.scf_compile.proofs.RuleCode.{return_answers}
use Rattle.scf_compile.proofs.rules.rules_block.Goals as goal

pub loop-end-init : goal.loop-end-init
loop-end-init c =
    let rs = c.args.rules.now in
    let block : c.push_front.new.self.items ≡ return_with c.args.default.0 ∷ [] = search auto_rules in
    let none : drop (length rs) rs ≡ [] =
    nil_from_length (drop (length rs) rs) (omega (arith, length-drop (length rs) rs)) in
    rw block (record {
      inside = omega arith;
      put = rw none (return_answers c.args.default.0 1 (AllByRecursion IsPlainRule []) (omega arith));
    })

pub loop-end-preserved : goal.loop-end-preserved
loop-end-preserved c = record {
  inside = omega (arith, c.in_ok-end.ensures.fewer, c.loop-end.invariant.inside);
  put = c.in_ok-end.ensures.put c.args.default c.loop-end.invariant.put;
}

pub returns : goal.returns
returns c =
    let none : c.loop-end.end ≡ 0 = omega arith in
    rw c.from.ensures.0 (rw none at c.loop-end.invariant.put)
