use Rattle.scf_compile.proofs.Common.{auto_rules, ◌≡◌, ◌∷◌, arith, load_word, nat_tests, common_steps}
use Rattle.scf_compile.proofs.Filters.{all_stand, filter_put}
use Rattle.scf_compile.proofs.compiler.filter_of.Goals as goal

pub put_dispatch-requires-clause-stand : goal.put_dispatch-requires-clause-stand
put_dispatch-requires-clause-stand c = grind (arith, common_steps, nat_tests, all_stand, c.deref.ensures.value, c.in_ok-code.ensures.put.each)

pub put_dispatch-requires-clause-few : goal.put_dispatch-requires-clause-few
put_dispatch-requires-clause-few c = grind (arith, common_steps, nat_tests, all_stand, c.in_ok-code.ensures.put.each, c.requires.few, c.deref.ensures.value, c.in_ok-code.ensures.small)

pub returns : goal.returns
returns c =
    let whole : c.from.result.items ≡ load_word 1 ∷ c.put_dispatch.new.code.items = search auto_rules in
    filter_put c.requires.apart c.in_ok-code.ensures.put
    (rw c.deref.ensures.value at c.in_ok-put_dispatch.ensures) whole
