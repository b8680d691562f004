use Rattle.scf_machine.specs.Rules.{IsFilter}
use Rattle.scf_machine.proofs.Stacks.{stack_answer_is}
use Rattle.scf_compare.specs.Findings.{AllRelated}
use Rattle.scf_compare.proofs.Common.{ℕ, List, All, Insn, Relation, Scope, IsRelated, arith, compared_in, stack_behavior, words_of}
use Rattle.scf_compare.proofs.comparer.are_same_stacks.Goals as goal

related_to_itself : (by : Relation) (answer : ℕ) → IsRelated by answer answer
related_to_itself by answer = grind arith

-- a stack beside itself answers each call alike
beside_itself : (filters : List (List Insn)) (by : Relation) (over : Scope) → All IsFilter filters
    → AllRelated (compared_in by over (stack_behavior filters) (stack_behavior filters))
beside_itself filters by over are = λ call is_record in_scope.
    let answer = stack_answer_is filters (words_of call) are in
    record {
      left = answer.0;
      right = answer.0;
      of_left = answer.1;
      of_right = answer.1;
      are_related = related_to_itself by answer.0;
    }

pub returns-in-Stack-Stack-clause-related : goal.returns-in-Stack-Stack-clause-related
returns-in-Stack-Stack-clause-related c = λ same by over.
    let here = c.in-Stack-Stack in
    rw (here.is-0, here.is-1, ← c.have_same_filters.ensures.same same)
    (beside_itself here.left.now by over (c.have_same_filters.ensures.filters same))
