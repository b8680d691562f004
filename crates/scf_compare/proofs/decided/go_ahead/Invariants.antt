use Rattle.scf_compare.proofs.Common.{◌-◌, ◌≤◌, IsWords, side_leaves}
use Rattle.scf_compare.specs.internal.Trees.{IsLaterNode, pending_tree}
use Rattle.scf_compare.proofs.decided.go_ahead.Given as goal

abbrev pub invariant-loop-taken : goal.invariant-loop-taken
invariant-loop-taken g l =
    let side = g.T.SideTree in
    let facts = g.F.WordFacts in
    let leaves = side_leaves (side.behavior l.side) in
    record {
      later : IsLaterNode (λ words. IsWords words × facts.allows l.facts (facts.level l.facts) words)
          (pending_tree leaves (side.tree l.side l.fn.known)) l.fn.pending
          (pending_tree leaves (side.tree l.side l.known)) l.pending;
      most : l.taken ≤ l.most;
    }

abbrev pub decreases-loop-taken : goal.decreases-loop-taken
decreases-loop-taken g l = l.most - l.taken
