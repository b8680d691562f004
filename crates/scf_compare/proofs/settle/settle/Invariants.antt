use Rattle.scf_compare.proofs.Common.{◌≡◌, ◌+◌, ◌≤◌, ◌⊎◌, ℕ, List, AreWordsIn, IsAhead, IsFrontier, None, WereSeen, open_size}
use Rattle.scf_compare.specs.declared.budget.Splits.TheVariants.{NoLimit}
use Rattle.scf_compare.specs.internal.Settling.{settling_trees}
use Rattle.scf_compare.proofs.settle.settle.Given as goal

abbrev pub invariant-loop-settling : goal.invariant-loop-settling
invariant-loop-settling g l =
    let store = g.F.WordFacts in
    let compared = g.C.Comparison.compared l.fn.comparison in
    let tree = g.C.Comparison.tree l.fn.comparison in
    let trees = settling_trees tree l.fn.start l.fn.root in
    record {
      frontier : IsFrontier store trees (AreWordsIn compared) l.frontier;
      node : (trees l.known).is_node l.node;
      words : (words : List ℕ) → AreWordsIn compared words
          → WereSeen compared None words ⊎ IsAhead store trees l.frontier ((trees l.known).reaches l.node) words;
      unlimited : l.fn.budget.splits ≡ NoLimit → l.budget.splits ≡ NoLimit;
      leaves : l.budget.steps ≤ l.fn.budget.steps;
    }

abbrev pub decreases-loop-settling : goal.decreases-loop-settling
decreases-loop-settling g l =
    let trees = settling_trees (g.C.Comparison.tree l.fn.comparison) l.fn.start l.fn.root in
    open_size trees l.frontier + (trees l.known).size l.node
