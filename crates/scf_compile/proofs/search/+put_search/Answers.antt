use Rattle.scf_compile.proofs.Common.{IsRule, NrRange, sym, subst, ◌++◌, ap, arith, IfOk-weaker, sum_by, sum_by-append, IsFirst, IsPut, IsSearchPut, AnswersRules, range_bound, sum_by-cons, nat_tests, common_steps}
use Rattle.scf_compile.proofs.Searches.{all_parts, one_is, search_branch, search_one}
use Rattle.scf_compile.proofs.search.+put_search.Goals as goal

pub put_search-requires : goal.put_search-requires
put_search-requires t c = grind (arith, common_steps, nat_tests, sum_by-append, all_parts, c.split_at.ensures, c.requires.rules)

pub put_search-requires-then-ranges-gt1 : goal.put_search-requires-then-ranges-gt1
put_search-requires-then-ranges-gt1 t c =
    let halves = c.split_at.ensures in
    let sums = rw sum_by-append at (ap (sum_by range_bound) halves.by_index.0) in (
      omega arith,
      (
        omega arith,
        (
          omega arith,
          (
            omega arith,
            (
              (all_parts (IsRule c.args.leaves.architecture) _ _ (rw halves.by_index.0 at c.requires.rules)).1,
              omega (arith, c.in_ok-miss.ensures.small),
            ),
          ),
        ),
      ),
    )

pub put_branch-requires-clause-few : goal.put_branch-requires-clause-few
put_branch-requires-clause-few t c = grind (arith, common_steps, nat_tests, sum_by-append, c.split_at.ensures.by_index.0, c.in_ok-miss.ensures.small, c.in_ok-hit.ensures.small)

pub returns-then-ranges-gt1 : goal.returns-then-ranges-gt1
returns-then-ranges-gt1 t c =
    let s = c.index-high-0.result in
    let more = c.if-ranges-gt1.true in
    rw c.split_at.ensures.by_index.0 (IfOk-weaker c.put_branch.result (IsFirst _ _ _)
    (IsSearchPut c.args.leaves.architecture c.args.leaves.default c.args.most
    (c.split_at.result.0.now ++ c.split_at.result.1.now) _ _)
    (λ index first. search_branch c.args.leaves.architecture c.args.leaves.default _ _ s (omega arith) (omega arith) (omega arith)
    c.index-high-0.is c.in_ok-miss.ensures c.in_ok-hit.ensures (rw (← c.index-high-0.is) at first))
    c.put_branch.ensures)

pub rules_block-requires : goal.rules_block-requires
rules_block-requires t c = grind (arith, common_steps, nat_tests, one_is, sum_by-cons, c.requires.some, c.requires.rules, c.requires.small)

pub returns : goal.returns
returns t c =
    let ss = c.args.ranges.now in
    let s = c.index-ranges-0.result in
    let is = one_is ss s c.requires.some (omega arith) c.index-ranges-0.is in
    let answers : AnswersRules c.args.leaves.architecture c.args.leaves.default s.rules.now c.in_ok-block.block.items =
    subst (λ (r : NrRange). AnswersRules c.args.leaves.architecture c.args.leaves.default r.rules.now c.in_ok-block.block.items)
    (sym c.index-ranges-0.is) c.in_ok-block.ensures in
    let block : AnswersRules c.args.leaves.architecture c.args.leaves.default s.rules.now c.deref.result.now =
    rw c.deref.ensures.value answers in
    IfOk-weaker c.put_shared.result (IsPut c.deref.result.now c.args.code.now.items c.put_shared.new.code.items)
    (IsSearchPut c.args.leaves.architecture c.args.leaves.default c.args.most ss _ _)
    (λ index put. rw is (search_one c.args.leaves.architecture c.args.leaves.default c.args.most s _ _ _ index block put))
    c.put_shared.ensures
