use Rattle.scf_compile.proofs.Common.{common_steps, ◌<◌, ◌∙◌, List, ap, arith, length, ArgumentValue, IfOk-weaker, IsFirst, IsValueSearchPut}
use Rattle.scf_compile.proofs.ValueSearches.{halves_len, halves_put}
use Rattle.scf_compile.proofs.values.+put_value_search.Goals as goal

pub put_value_search-requires : goal.put_value_search-requires
put_value_search-requires t c =
    let len = halves_len c.args.values.now c.in_ok-middle.middle c.args.behind in
    let lower = ap (λ (l : List ArgumentValue). length l) (c.deref.ensures.value ∙ c.in_ok-lower.ensures.lower) in
    let upper = ap (λ (l : List ArgumentValue). length l) c.in_ok-lower.ensures.upper in
    let some : 0 < length c.in_ok-lower.upper.items = grind (arith, common_steps) in
    (omega arith, (omega arith, (omega arith, omega arith)))

pub put_value_search-requires-2 : goal.put_value_search-requires-2
put_value_search-requires-2 t c =
    let len = halves_len c.args.values.now c.in_ok-middle.middle c.args.behind in
    let lower = ap (λ (l : List ArgumentValue). length l) (c.deref.ensures.value ∙ c.in_ok-lower.ensures.lower) in
    let upper = ap (λ (l : List ArgumentValue). length l) (c.deref-2.ensures.value ∙ c.in_ok-lower.ensures.upper) in
    let some : 0 < length c.in_ok-lower.lower.items = grind (arith, common_steps) in
    let same = ap (λ (l : List ArgumentValue). length l) c.in_ok-lower.ensures.lower in
    let put = c.in_ok-miss.ensures in (
      omega arith,
      (omega arith, (omega (arith, put.longer), omega (arith, put.small))),
    )

pub put_branch-requires-clause-few : goal.put_branch-requires-clause-few
put_branch-requires-clause-few t c =
    let len = halves_len c.args.values.now c.in_ok-middle.middle c.args.behind in
    let lower = ap (λ (l : List ArgumentValue). length l) (c.deref.ensures.value ∙ c.in_ok-lower.ensures.lower) in
    let upper = ap (λ (l : List ArgumentValue). length l) (c.deref-2.ensures.value ∙ c.in_ok-lower.ensures.upper) in
    omega (arith, c.in_ok-miss.ensures.small, c.in_ok-hit.ensures.small)

pub returns : goal.returns
returns t c =
    let lower = c.deref.ensures.value ∙ c.in_ok-lower.ensures.lower in
    let upper = c.deref-2.ensures.value ∙ c.in_ok-lower.ensures.upper in
    let some_lower : 0 < length c.in_ok-lower.lower.items = grind (arith, common_steps) in
    let some_upper : 0 < length c.in_ok-lower.upper.items = grind (arith, common_steps) in
    IfOk-weaker c.put_branch.result (IsFirst _ _ _) (IsValueSearchPut c.args.values.now c.args.behind _ _)
    (λ index first. halves_put c.args.values.now c.in_ok-middle.middle c.args.behind c.requires.stands
    (rw c.in_ok-lower.ensures.lower at some_lower) (rw c.in_ok-lower.ensures.upper at some_upper)
    (rw lower at c.in_ok-miss.ensures) (rw upper at c.in_ok-hit.ensures) first) c.put_branch.ensures
