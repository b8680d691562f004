use Rattle.scf_text.proofs.Common.{true, false, take_rest, ◌≡◌, is_semicolon}
use Rattle.scf_text.proofs.TokenLemmas.{no_token, statement_ends, token_next, words_front}
use Rattle.scf_text.proofs.part.front.Goals as goal

pub returns-in_default-clause-words : goal.returns-in_default-clause-words
returns-in_default-clause-words c = no_token c.args.part.now c.in_default.ensures.token

pub returns-then-eq-clause-words : goal.returns-then-eq-clause-words
returns-then-eq-clause-words c =
    let end : is_semicolon c.in-Some.token.text.now ≡ true = cc in
    rw take_rest (statement_ends _ c.args.part.now _ end (words_front _ _ _ _ _ c.in-Some.ensures.token))

pub returns-else-eq-clause-words : goal.returns-else-eq-clause-words
returns-else-eq-clause-words c =
    let differs : is_semicolon c.in-Some.token.text.now ≡ false = cc in
    rw take_rest (token_next _ c.args.part.now _ differs (words_front _ _ _ _ _ c.in-Some.ensures.token))
