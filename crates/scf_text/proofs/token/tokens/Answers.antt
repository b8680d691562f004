use Rattle.scf_text.proofs.Common.{append-nil, arith, err_from_is_err_and, nat_tests}
use Rattle.scf_text.proofs.TokenLemmas.{found_slices, next_tokens}
use Rattle.scf_text.proofs.ReadLemmas.{some_between}
use Rattle.scf_text.proofs.token.tokens.Goals as goal
use Rattle.std.proofs.lemmas.Grind.{common_steps}

pub returns-in_err-push_tokens-clause-refused : goal.returns-in_err-push_tokens-clause-refused
returns-in_err-push_tokens-clause-refused c = grind (arith, common_steps, nat_tests, err_from_is_err_and, some_between, c.from_residual.ensures.1, c.first_line.ensures.lines, c.lines.invariant.so_far, c.without_comment.ensures.value, c.in_err-push_tokens.ensures.refused)

-- the tokens of all lines are found at the last one
pub returns-in-None-clause-pieces : goal.returns-in-None-clause-pieces
returns-in-None-clause-pieces c = grind (arith, common_steps, nat_tests, append-nil, next_tokens, c.lines.invariant.so_far, c.first_line.ensures.lines, c.without_comment.ensures.value, c.in_ok-push_tokens.ensures.tokens)

pub returns-in-None-clause-slices : goal.returns-in-None-clause-slices
returns-in-None-clause-slices c = grind (arith, common_steps, nat_tests, found_slices, returns-in-None-clause-pieces)

pub lines-preserved : goal.lines-preserved
lines-preserved c = grind (arith, common_steps, nat_tests, next_tokens, c.first_line.ensures.len, c.lines.invariant.index, c.lines.invariant.so_far, c.first_line.ensures.lines, c.without_comment.ensures.value, c.in_ok-push_tokens.ensures.tokens)
