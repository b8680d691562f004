use Rattle.scf_compare.proofs.Common.{arith, mul-le-mul_left, common_steps}
use Rattle.scf_compare.proofs.Steps.{scaled_steps}
use Rattle.scf_compare.specs.internal.Laws.{pending_counts}
use Rattle.scf_compare.specs.internal.Trees.{pending_size}
use Rattle.scf_compare.proofs.pair.PairComparison.pass.Goals as goal

pub returns-then-passed-eq0 : goal.returns-then-passed-eq0
returns-then-passed-eq0 g c =
    let passed = c.pass-passed.ensures in
    let known = c.args.known.now in
    let left = g.L.SideTree.tree c.args.self.now.left in
    let right = g.R.SideTree.tree c.args.self.now.right known.right in
    let counts = pending_counts right (g.met.R.SideTree.counts c.args.self.now.right known.right) known.ahead in
    let requires = rw c.in-AtLeft.is at c.requires in
    let size = scaled_steps ((left c.pass-passed.new.known).size c.pass-passed.new.node) c.pass-passed.result.steps
    ((left known.left).size c.in-AtLeft.left) (pending_size right known.ahead) passed.size counts in
    grind (arith, common_steps, passed.later.reached, passed.later.plain)

pub returns-else-passed-eq0 : goal.returns-else-passed-eq0
returns-else-passed-eq0 g c =
    let passed = c.pass-passed.ensures in
    let known = c.args.known.now in
    let left = g.L.SideTree.tree c.args.self.now.left in
    let right = g.R.SideTree.tree c.args.self.now.right in
    let ahead = c.go_ahead.ensures in
    let after = c.go_ahead.new.known in
    let pending = c.go_ahead.new.pending in
    let counts = pending_counts (right after) (g.met.R.SideTree.counts c.args.self.now.right after) pending in
    let requires = rw c.in-AtLeft.is at c.requires in
    let from = (left known.left).size c.in-AtLeft.left in
    let all = mul-le-mul_left from ahead.size in
    let size = scaled_steps ((left c.pass-passed.new.known).size c.pass-passed.new.node) c.pass-passed.result.steps
    from (pending_size (right after) pending) passed.size counts in
    rw c.in-AtLeft.is (record {
      later = record {
        node = (passed.later.node, ahead.node);
        reached = λ words allowed r.
            (r.0, passed.later.reached words (r.0, allowed) r.1, ahead.reached words (r.0, allowed) r.2);
        size = omega (arith, size, all);
        plain = λ masks plain. (passed.later.plain masks plain.0, ahead.plain masks plain.1);
      };
      size = omega (arith, size, all);
      most = passed.most;
    })

pub returns-in-AtRight : goal.returns-in-AtRight
returns-in-AtRight g c =
    grind (arith, common_steps)
