use Rattle.scf_compare.proofs.Common.{length, ◌≡◌, ◌+◌, ◌-◌, ◌≤◌, ◌⊎◌, ℕ, All, List, None, AreWordsIn, IsAhead, IsExact, IsFrontier, open_size}
use Rattle.scf_facts.specs.Masks.{AreFew}
use Rattle.scf_compare.specs.Regions.{IsCovered, IsDecidedRegion}
use Rattle.scf_compare.specs.internal.Frontier.{IsWhole}
use Rattle.scf_compare.specs.internal.Regions.{AreRegionsSoFar}
use Rattle.scf_compare.proofs.regions.regions_of_pair.Given as goal

abbrev pub invariant-loop-steps : goal.invariant-loop-steps
invariant-loop-steps g l =
    let store = g.F.WordFacts in
    let compared = g.C.Comparison.compared l.comparison in
    let tree = g.C.Comparison.tree l.comparison in
    let here = tree l.known in
    let start = tree l.fn.start in
    record {
      frontier : IsFrontier store tree (AreWordsIn compared) l.frontier;
      node : here.is_node l.node;
      words : (words : List ℕ) → AreWordsIn compared words
          → IsCovered compared.left compared.right l.list.items words
          ⊎ IsAhead store tree l.frontier (here.reaches l.node) words;
      whole : IsWhole store tree l.frontier l.first_open (here.reaches l.node);
      regions : AreRegionsSoFar store compared tree l.frontier l.first_open l.list.items;
      few : length l.list.items ≤ l.steps;
      most : l.steps ≤ l.limit;
      size : l.steps + (open_size tree l.frontier + here.size l.node) ≤ start.size l.fn.root;
      decided : (masks : ℕ) → AreFew masks → store.refutes_among l.fn.facts 0 masks → start.is_plain masks l.fn.root
          → (l.first_open ≡ None) × All IsDecidedRegion l.list.items
          × IsExact store tree masks l.frontier (here.is_plain masks l.node) (here.reaches l.node);
    }

abbrev pub decreases-loop-steps : goal.decreases-loop-steps
decreases-loop-steps g l = l.limit - l.steps
