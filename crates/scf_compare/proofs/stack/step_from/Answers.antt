-- The steps of the filter that is asked are steps of the stack, and at its leaves the next one begins.
use Rattle.scf_compare.proofs.Common.{[], ◌+◌, ◌*◌, ◌<◌, ◌≤◌, length, drop, arith, take_all, mul-le-mul_left, stack_paths, filter_size, paths_count, filter_at, common_steps}
use Rattle.scf_compare.proofs.Stacks.{all_decide, is_stack_leaf, next_tells, paths_from, side_leaf}
use Rattle.scf_compare.proofs.SeveralProfiles.{on_either}
use Rattle.scf_compare.specs.internal.Laws.{scaled_costs}
use Rattle.scf_compare.proofs.stack.step_from.Goals as goal

-- the end of a filter's tree is one of the stack, and so is the end at which all filters so far decide
pub returns-then-index-filters : goal.returns-then-index-filters
returns-then-index-filters g c =
    let filters = c.args.filters.now in
    let index = c.loop-next.index in
    let step = rw (c.filter_of.ensures, c.in-Leaf.is) at c.step_in_filter.ensures in
    let so_far = c.loop-next.invariant in
    let past : length filters ≤ index + 1 = omega (arith, c.if-index-filters.true) in
    record {
      proper = side_leaf filters c.decided_at-decided.result (c.decided_at-decided.ensures.leaf filters index so_far.node.2
          (is_stack_leaf filters index c.in-Leaf.leaf so_far.node.0 step.proper));
      leads = λ words w r.
          let before = so_far.reaches words w r in
          all_decide filters c.decided_at-decided.result words (omega (arith, so_far.node.0))
          (rw (take_all (index + 1) filters past)
          at (c.decided_at-decided.ensures.decides filters index words so_far.node.0 so_far.node.2 before.0
          (next_tells filters index c.in-Leaf.leaf words (step.leads words w before.1))));
      costs = grind (arith, common_steps);
      plain = λ masks plain.
          grind (arith, c.decided_at-decided.ensures.known, so_far.plain masks plain, step.plain masks);
    }

pub loop-next-preserved : goal.loop-next-preserved
loop-next-preserved g c =
    let filters = c.args.filters.now in
    let index = c.loop-next.index in
    let size = filter_size (filter_at filters index) in
    let so_far = c.loop-next.invariant in
    let inside : index + 1 < length filters = omega (arith, so_far.node.0, c.if-index-filters.false) in
    let step = rw (c.filter_of.ensures, c.in-Leaf.is) at c.step_in_filter.ensures in
    let costs : 1 ≤ size c.loop-next.node = step.costs in
    let begun = rw c.filter_of-in-Leaf.ensures at c.start_in_filter-start.ensures in
    let newer = stack_paths (drop (index + 1) filters) in
    let most : newer * 1 ≤ newer * size c.loop-next.node = mul-le-mul_left newer costs in
    record {
      node = (
        inside,
        begun.node,
        c.decided_at-decided.ensures.leaf filters index so_far.node.2
            (is_stack_leaf filters index c.in-Leaf.leaf so_far.node.0 step.proper),
      );
      reaches = λ words w r.
          let before = so_far.reaches words w r in (
            c.decided_at-decided.ensures.decides filters index words so_far.node.0 so_far.node.2 before.0
                (next_tells filters index c.in-Leaf.leaf words (step.leads words w before.1)),
            begun.reached words,
          );
      size = grind (arith, begun.size, paths_from filters (index + 1) inside, most, so_far.size);
      plain = λ masks plain.
          let before = so_far.plain masks plain in (
            before.0,
            c.decided_at-decided.ensures.known before.1 (step.plain masks before.2),
            begun.plain masks (before.0 (index + 1) [] inside),
          );
    }

-- a step inside the filter that is asked
pub returns-in-Next : goal.returns-in-Next
returns-in-Next g c =
    let filters = c.args.filters.now in
    let index = c.loop-next.index in
    let size = filter_size (filter_at filters index) in
    let step = rw (c.filter_of.ensures, c.in-Next.is) at c.step_in_filter.ensures in
    let so_far = c.loop-next.invariant in
    let costs : size c.in-Next.next + 0 + 1 ≤ size c.loop-next.node = omega (arith, step.costs) in
    let newer = drop (index + 1) filters in
    record {
      proper = (so_far.node.0, step.proper, so_far.node.2);
      leads = λ words w r. let before = so_far.reaches words w r in (before.0, step.leads words w before.1);
      costs = omega (
        arith,
        scaled_costs (size c.in-Next.next) 0 (size c.loop-next.node) (stack_paths newer) costs (paths_count newer),
        so_far.size,
      );
      plain = λ masks plain.
          let before = so_far.plain masks plain in (before.0, before.1, step.plain masks before.2);
    }

pub returns-in-Branch : goal.returns-in-Branch
returns-in-Branch g c =
    let filters = c.args.filters.now in
    let index = c.loop-next.index in
    let size = filter_size (filter_at filters index) in
    let step = rw (c.filter_of.ensures, c.in-Branch.is) at c.step_in_filter.ensures in
    let so_far = c.loop-next.invariant in
    let newer = drop (index + 1) filters in
    record {
      proper = (
        step.proper.0,
        (so_far.node.0, step.proper.1, so_far.node.2),
        (so_far.node.0, step.proper.2, so_far.node.2),
      );
      leads = λ words w r.
          let before = so_far.reaches words w r in
          on_either c.in-Branch.atom words (λ first. (before.0, first)) (λ second. (before.0, second))
          (step.leads words w before.1);
      costs = omega (
        arith,
        scaled_costs (size c.in-Branch.if_true) (size c.in-Branch.if_false) (size c.loop-next.node) (stack_paths newer)
            step.costs (paths_count newer),
        so_far.size,
      );
      plain = λ masks plain.
          let before = so_far.plain masks plain in
          let on = step.plain masks before.2 in
          (on.0, (before.0, before.1, on.1), (before.0, before.1, on.2));
    }
