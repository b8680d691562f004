use Rattle.std.proofs.Common.{tests}
use Rattle.std.proofs.lemmas.Iterator.{YieldsList-from_slice}
use Rattle.std.proofs.lemmas.Iterator.Search.{YieldsList-from_take_while, cmp_from_yields_List}
use Rattle.scf_text.proofs.Common.{◌≡◌, drop, is_word_byte, nat_cmp, refl, rules}
use Rattle.scf_text.proofs.label.compare_words.Goals as goal

pub returns : goal.returns
returns c =
    let text = c.args.text.now in
    cmp_from_yields_List (λ x y. y ≡ x) _ nat_cmp _ c.cmp.ensures.ran
    (YieldsList-from_take_while _ is_word_byte (YieldsList-from_slice (drop c.args.left text) cc)
    c.take_while.ensures.closure c.take_while.ensures.done (λ x b q k. search (rules, tests)))
    (λ it e. rw e (YieldsList-from_take_while _ is_word_byte (YieldsList-from_slice (drop c.args.right text) cc)
    c.take_while-2.ensures.closure c.take_while-2.ensures.done (λ x b q k. search (rules, tests))))
    (λ x y. refl)
