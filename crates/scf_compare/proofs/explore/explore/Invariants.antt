use Rattle.scf_compare.proofs.Common.{◌≡◌, ◌+◌, ◌-◌, ◌≤◌, ◌⊎◌, ℕ, List, IfSome, None, AreWordsIn, IsFirstUndecided, WereSeen, IsAhead, IsFrontier, IsExact, open_size}
use Rattle.scf_facts.specs.Masks.{AreFew}
use Rattle.scf_compare.proofs.explore.explore.Given as goal

abbrev pub invariant-loop-steps : goal.invariant-loop-steps
invariant-loop-steps g l =
    let store = g.F.WordFacts in
    let compared = g.C.Comparison.compared l.comparison in
    let tree = g.C.Comparison.tree l.comparison in
    let here = tree l.known in
    let whole = tree l.fn.start in
    record {
      frontier : IsFrontier store tree (AreWordsIn compared) l.frontier;
      node : here.is_node l.node;
      index : IfSome l.first_undecided (IsFirstUndecided compared);
      words : (words : List ℕ) → AreWordsIn compared words
          → WereSeen compared l.first_undecided words ⊎ IsAhead store tree l.frontier (here.reaches l.node) words;
      size : l.steps + (open_size tree l.frontier + here.size l.node) ≤ whole.size l.fn.root;
      most : l.steps ≤ l.limit;
      exact : (masks : ℕ) → AreFew masks → store.refutes_among l.fn.facts 0 masks → whole.is_plain masks l.fn.root
          → (l.first_undecided ≡ None)
          × IsExact store tree masks l.frontier (here.is_plain masks l.node) (here.reaches l.node);
    }

abbrev pub decreases-loop-steps : goal.decreases-loop-steps
decreases-loop-steps g l = l.limit - l.steps
