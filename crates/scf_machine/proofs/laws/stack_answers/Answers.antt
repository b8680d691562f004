use Rattle.scf_machine.proofs.Stacks.{empty_allows, one_answers, stack_answer_is, stack_answer_once, alike_answers}
use Rattle.scf_machine.proofs.Stacks.{pushed_answers}
use Rattle.scf_machine.proofs.laws.stack_answers.Goals as goal

pub returns : goal.returns
returns c = record {
  empty = empty_allows;
  one = one_answers;
  some = stack_answer_is;
  once = stack_answer_once;
  alike = alike_answers;
  newest = pushed_answers;
}
