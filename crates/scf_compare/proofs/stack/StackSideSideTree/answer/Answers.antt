use Rattle.scf_compare.proofs.Common.{words_of, stack_answer_once}
use Rattle.scf_compare.proofs.stack.StackSideSideTree.answer.Goals as goal

pub returns-clause-only : goal.returns-clause-only
returns-clause-only c = λ other answers.
    stack_answer_once c.args.self.now.filters.now (words_of c.args.call.now) other c.decide.result.0 answers
    c.decide.ensures
