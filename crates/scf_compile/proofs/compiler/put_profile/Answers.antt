use Rattle.scf_compile.proofs.Common.{arith, ap, Answer, nat_tests, common_steps}
use Rattle.scf_compile.proofs.Counts.{may_be_put, searched_more}
use Rattle.scf_compile.proofs.Sizes.{size_small}
use Rattle.scf_compile.proofs.Stubs.{own_bounded}
use Rattle.scf_compile.proofs.compiler.put_profile.Goals as goal

pub put_ranges-requires-clause-ranges : goal.put_ranges-requires-clause-ranges
put_ranges-requires-clause-ranges c = grind (arith, common_steps, nat_tests, may_be_put, c.deref.ensures.value, c.in_ok-ranges.ensures.profile, c.architecture.ensures, c.constant_rule-stub.ensures.rule, c.constant_rule-stub.ensures.always, c.constant_rule-stub.ensures.answer, c.from_ref.ensures.value, c.in_ok-ranges.ensures.ranges)

pub returns : goal.returns
returns c =
    let valid = c.in_ok-ranges.ensures.profile in
    let laid = rw c.from_ref.ensures.value at c.in_ok-ranges.ensures.ranges in
    let stub = c.constant_rule-stub.ensures in
    let rule = rw c.architecture.ensures at stub.rule in
    let answer = ap (λ (b : Answer). b.0) stub.answer in
    let search_put = rw c.deref.ensures.value at c.in_ok-index.ensures in
    let put = rw c.architecture-2.ensures at c.in_ok-push_front.ensures.items in
    record {
      put = λ ps before. rw put (searched_more _ valid _ rule stub.always answer _ laid before search_put);
      small = omega (arith, search_put.small, size_small _ valid, own_bounded _ _ stub.always laid);
    }
