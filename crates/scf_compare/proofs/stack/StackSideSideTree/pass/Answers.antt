use Rattle.scf_compare.proofs.Common.{◌+◌, arith, drop, filter_at, filter_size, paths_count, stack_paths}
use Rattle.scf_compare.proofs.Steps.{scaled_steps}
use Rattle.scf_compare.proofs.stack.StackSideSideTree.pass.Goals as goal

pub returns-in-At : goal.returns-in-At
returns-in-At g c =
    let filters = c.args.self.now.filters.now in
    let newer = drop (c.in-At.index + 1) filters in
    let passed = rw c.filter_of-program.ensures at c.pass_in_filter.ensures in
    let requires = rw c.in-At.is at c.requires in
    let size = filter_size (filter_at filters c.in-At.index) in
    let scaled = scaled_steps (size c.pass_in_filter.new.node) c.pass_in_filter.result.steps (size c.in-At.inner)
    (stack_paths newer) passed.steps (paths_count newer) in
    rw c.in-At.is (record {
      later = record {
        node = (requires.0, passed.later.node, requires.2);
        reached = λ words w r. (r.0, passed.later.reached words w r.1);
        size = omega (arith, scaled);
        plain = λ masks plain. (plain.0, plain.1, passed.later.plain masks plain.2);
      };
      size = scaled;
      most = passed.most;
    })
