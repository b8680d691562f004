use Rattle.scf_compile.proofs.Common.{◌≡◌, List, [], ◌∷◌, refl, sym, inr, arith, AllByRecursion, cases_Bool, recursion_from_All, take_all, Answer, Architecture, CallRecord, Rule, first_answer, nat_tests, common_steps}
use Rattle.scf_compile.proofs.ranges.effective_rules.Goals as goal

of_default : (a : Architecture) (default : Answer) (call : CallRecord) (rs : List Rule)
    → AllByRecursion (λ r. r.answer ≡ default) rs → first_answer a call default rs ≡ default.0
of_default a default call [] h = refl
of_default a default call (r ∷ rs) h = grind (arith, common_steps, nat_tests, cases_Bool, of_default a default call rs h.1)

pub returns : goal.returns
returns c =
    let all_rules = c.args.number_rules.now.rules.items in
    let whole = take_all c.loop-rule.rule-index all_rules (grind arith) in
    let all = recursion_from_All (λ r. r.answer ≡ c.args.default) all_rules (rw whole at c.loop-rule.invariant) in
    record {
      stand = record { answers = λ a call. sym (of_default a c.args.default call all_rules all); small = omega arith };
      some = inr refl;
    }
