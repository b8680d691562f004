use Rattle.scf_text.proofs.Common.{arith, take_rest, length-take-le, length-drop, nat_tests}
use Rattle.scf_text.proofs.TokenLemmas.{name_is_word, token_is}
use Rattle.scf_text.proofs.token.first_token.Goals as goal
use Rattle.std.proofs.lemmas.Grind.{common_steps}

pub returns-clause-token : goal.returns-clause-token
returns-clause-token c = grind (arith, common_steps, nat_tests, take_rest, length-drop, length-take-le, token_is, c.word_len.ensures.value, c.word_len.ensures.within, c.blanks_len-start.ensures.value, c.max-len.ensures)

pub returns-clause-word : goal.returns-clause-word
returns-clause-word c = grind (arith, common_steps, nat_tests, take_rest, name_is_word, c.word_len.ensures.value, c.max-len.ensures)
