use Rattle.scf_compile.proofs.Common.{◌∷◌, [], IfOk-weaker, RunAnswers, SameAnswers, arith, nat_tests, common_steps}
use Rattle.scf_compile.proofs.Common.{SameAnswersAsEach}
use Rattle.scf_compile.proofs.Valid.{one_plain, one_same, one_search_bound, one_sized}
use Rattle.scf_compile.proofs.compiler.compile.Goals as goal

pub returns-clause-same : goal.returns-clause-same
returns-clause-same c =
    let p = c.args.profile.now in
    IfOk-weaker c.compile_by_counts.result (λ program. SameAnswersAsEach (RunAnswers program) (p ∷ []))
    (λ program. SameAnswers (RunAnswers program) p) (λ program same. one_same p (RunAnswers program) same)
    (rw c.from_ref.ensures.value at c.compile_by_counts.ensures.same)

pub returns-clause-searched : goal.returns-clause-searched
returns-clause-searched c =
    let p = c.args.profile.now in
    rw one_search_bound at (rw c.from_ref.ensures.value at c.compile_by_counts.ensures.searched)

pub returns-clause-plain : goal.returns-clause-plain
returns-clause-plain c = λ plain.
    (rw c.from_ref.ensures.value at c.compile_by_counts.ensures.plain) (one_plain c.args.profile.now plain)

pub returns-clause-sized : goal.returns-clause-sized
returns-clause-sized c = grind (arith, common_steps, nat_tests, one_sized, c.from_ref.ensures.value, c.compile_by_counts.ensures.sized)
