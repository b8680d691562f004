use Rattle.scf_compile.proofs.Common.{common_steps, ◌≡◌, ◌<◌, ◌∙◌, All-filter, All-from_recursion, List, ap, arith, eqb, filter, get_or, length, nil_from_length, not, high, ArgumentValue, IsArgumentValue}
use Rattle.scf_compile.proofs.ValueSearches.{groups_len, groups_put, none_put, own_halves, own_some}
use Rattle.scf_compile.proofs.values.put_values.Goals as goal

pub put_half_search-requires-clause-fine : goal.put_half_search-requires-clause-fine
put_half_search-requires-clause-fine c =
    let half = c.high_half-half.result in
    let vs = c.loop-alloc.remaining.items in
    let group : c.deref-in-loop-alloc.result.now ≡ filter (λ v. eqb (high v.value) half) vs =
    c.deref-in-loop-alloc.ensures.value ∙ rw c.deref.ensures.value at c.in_ok-group.ensures.group in
    rw group (All-filter (λ v. eqb (high v.value) half) (IsArgumentValue c.args.architecture) vs c.loop-alloc.invariant.fine)

pub put_half_search-requires-clause-halves : goal.put_half_search-requires-clause-halves
put_half_search-requires-clause-halves c =
    let half = c.high_half-half.result in
    let vs = c.loop-alloc.remaining.items in
    let group : c.deref-in-loop-alloc.result.now ≡ filter (λ v. eqb (high v.value) half) vs =
    c.deref-in-loop-alloc.ensures.value ∙ rw c.deref.ensures.value at c.in_ok-group.ensures.group in
    rw group (All-from_recursion (λ v. high v.value ≡ half) _ (own_halves half vs))

pub put_half_search-requires-clause-small : goal.put_half_search-requires-clause-small
put_half_search-requires-clause-small c =
    let half = c.high_half-half.result in
    let vs = c.loop-alloc.remaining.items in
    let group : c.deref-in-loop-alloc.result.now ≡ filter (λ v. eqb (high v.value) half) vs =
    c.deref-in-loop-alloc.ensures.value ∙ rw c.deref.ensures.value at c.in_ok-group.ensures.group in
    omega (arith, c.loop-alloc.invariant.small, groups_len half vs, ap (λ (l : List ArgumentValue). length l) group)

pub loop-alloc-smaller : goal.loop-alloc-smaller
loop-alloc-smaller c =
    let half = c.high_half-half.result in
    let vs = c.loop-alloc.remaining.items in
    let d = c.index.result.now in
    let some : 0 < length vs = grind (arith, common_steps) in
    let others : c.in_ok-group.others.items ≡ filter (λ v. not (eqb (high v.value) half)) vs =
    rw c.deref.ensures.value at c.in_ok-group.ensures.others in
    let is : half ≡ high (get_or vs 0 d).value =
    c.high_half-half.ensures ∙ ap (λ (v : ArgumentValue). high v.value) c.index.ensures in
    omega (
      arith,
      groups_len half vs,
      ap (λ (l : List ArgumentValue). length l) others,
      rw (← is) at (own_some vs d some),
    )

pub loop-alloc-preserved : goal.loop-alloc-preserved
loop-alloc-preserved c =
    let half = c.high_half-half.result in
    let vs = c.loop-alloc.remaining.items in
    let group : c.deref-in-loop-alloc.result.now ≡ filter (λ v. eqb (high v.value) half) vs =
    c.deref-in-loop-alloc.ensures.value ∙ rw c.deref.ensures.value at c.in_ok-group.ensures.group in
    let others : c.in_ok-group.others.items ≡ filter (λ v. not (eqb (high v.value) half)) vs =
    rw c.deref.ensures.value at c.in_ok-group.ensures.others in
    let put = rw group at c.in_ok-put_half_search.ensures in
    let before = c.loop-alloc.invariant in
    let len = groups_len half vs in
    record {
      code = omega (arith, before.code, put.longer);
      fine = rw others (All-filter (λ v. not (eqb (high v.value) half)) (IsArgumentValue c.args.architecture) vs before.fine);
      small = rw others (omega (arith, before.small, put.small));
      put = λ after later. before.put after (groups_put half c.args.architecture vs put (rw others at later));
    }

pub returns : goal.returns
returns c =
    let none : length c.loop-alloc.remaining.items ≡ 0 = grind (arith, common_steps) in
    let empty = nil_from_length c.loop-alloc.remaining.items none in
    c.loop-alloc.invariant.put c.loop-alloc.code.items
    (rw empty (none_put c.args.architecture c.loop-alloc.code.items))
