use Rattle.scf_machine.proofs.Common.{take, words_of, IsDecidedBy, StackAnswers}
use Rattle.scf_machine.proofs.stack.decision_of.Given as goal

abbrev pub invariant-loop-filter : goal.invariant-loop-filter
invariant-loop-filter l =
    IsDecidedBy (take l.filter l.filters) (words_of l.call) l.decision.by l.decision.answer.0
    × StackAnswers (take l.filter l.filters) (words_of l.call) l.decision.answer.0
