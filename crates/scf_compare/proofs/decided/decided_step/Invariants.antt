use Rattle.scf_compare.proofs.Common.{IsWords, side_leaves}
use Rattle.scf_compare.specs.internal.Trees.{IsStep}
use Rattle.scf_compare.proofs.decided.decided_step.Given as goal

abbrev pub invariant-loop-count : goal.invariant-loop-count
invariant-loop-count g l =
    let side = g.T.SideTree in
    let facts = g.F.WordFacts in
    IsStep (side_leaves (side.behavior l.side))
    (λ words. IsWords words × facts.allows l.facts (facts.level l.facts) words)
    (side.tree l.side l.fn.known) l.fn.node (side.tree l.side l.known) l.step
