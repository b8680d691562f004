use Rattle.scf_compare.proofs.Common.{◌+◌, ◌≤◌, arith, mul-le-mul_left, scaled_costs, common_steps}
use Rattle.scf_compare.proofs.SeveralProfiles.{on_either}
use Rattle.scf_compare.specs.internal.Laws.{pending_counts}
use Rattle.scf_compare.specs.internal.Trees.{pending_size}
use Rattle.scf_compare.proofs.pair.PairComparison.step.Goals as goal

pub returns-in-Next : goal.returns-in-Next
returns-in-Next g c =
    let step = rw c.in-Next.is at c.step.ensures in
    let tree = g.L.SideTree.tree c.args.self.now.left in
    let known = c.args.known.now in
    let right = g.R.SideTree.tree c.args.self.now.right known.right in
    let counts = pending_counts right (g.met.R.SideTree.counts c.args.self.now.right known.right) known.ahead in
    let after = (tree c.step.new.known).size c.in-Next.next in
    let size = (tree known.left).size c.in-AtLeft.node in
    let costs : after + 0 + 1 ≤ size = omega (arith, step.costs) in
    grind (arith, common_steps)

pub returns-in-Branch : goal.returns-in-Branch
returns-in-Branch g c =
    let step = rw c.in-Branch.is at c.step.ensures in
    let tree = g.L.SideTree.tree c.args.self.now.left in
    let after = tree c.step.new.known in
    let size = (tree c.args.known.now.left).size c.in-AtLeft.node in
    let right = g.R.SideTree.tree c.args.self.now.right in
    let known = c.go_ahead.new.known in
    let ahead = c.go_ahead.ensures in
    let pending = c.go_ahead.new.pending in
    let counts = pending_counts (right known) (g.met.R.SideTree.counts c.args.self.now.right known) pending in
    let all = mul-le-mul_left size ahead.size in
    rw c.in-AtLeft.is (record {
      proper = (step.proper.0, (step.proper.1, ahead.node), (step.proper.2, ahead.node));
      leads = λ words allowed reached.
          let behind = ahead.reached words (reached.0, allowed) reached.2 in
          on_either c.in-Branch.atom words (λ first. (reached.0, first, behind)) (λ second. (reached.0, second, behind))
          (step.leads words (reached.0, allowed) reached.1);
      costs = grind (
        arith,
        scaled_costs (after.size c.in-Branch.if_true) (after.size c.in-Branch.if_false) size
            (pending_size (right known) pending) step.costs counts,
        all,
      );
      plain = λ masks plain.
          let on = step.plain masks plain.0 in
          let behind = ahead.plain masks plain.1 in (on.0, (on.1, behind), (on.2, behind));
    })

pub returns-in-Leaf : goal.returns-in-Leaf
returns-in-Leaf g c =
    let step = rw c.in-Leaf.is at c.step.ensures in
    let known = c.args.known.now in
    let asked = c.ask_right.ensures c.step.new.known c.ask_right.new.pending known.taken in
    let tree = g.L.SideTree.tree c.args.self.now.left in
    let counts : 1 ≤ (tree known.left).size c.in-AtLeft.node = step.costs in
    let right = g.R.SideTree.tree c.args.self.now.right known.right in
    let all = mul-le-mul_left (pending_size right known.ahead) counts in
    rw c.in-AtLeft.is (record {
      proper = asked.proper;
      leads = λ words allowed reached.
          asked.leads words allowed (reached.0, step.leads words (reached.0, allowed) reached.1, reached.2);
      costs = grind (arith, asked.costs, all);
      plain = λ masks plain. asked.plain masks (step.plain masks plain.0, plain.1);
    })

pub returns-in-AtRight : goal.returns-in-AtRight
returns-in-AtRight g c =
    let asked = c.ask_right-in-AtRight.ensures c.args.known.now.left c.args.known.now.ahead 0 in
    rw c.in-AtRight.is (record {
      proper = asked.proper;
      leads = asked.leads;
      costs = asked.costs;
      plain = asked.plain;
    })
