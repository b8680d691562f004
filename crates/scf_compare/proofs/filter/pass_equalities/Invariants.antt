use Rattle.scf_compare.proofs.Common.{◌+◌, ◌-◌, ◌≤◌, IsWords, filter_tree, tree_size}
use Rattle.scf_compare.specs.declared.filter.FilterNode.TheVariants.{At}
use Rattle.scf_compare.specs.internal.Trees.{IsLaterNode}
use Rattle.scf_compare.proofs.filter.pass_equalities.Given as goal

abbrev pub invariant-loop-steps : goal.invariant-loop-steps
invariant-loop-steps g l =
    let facts = g.F.WordFacts in
    record {
      later : IsLaterNode (λ words. IsWords words × facts.allows l.facts (facts.level l.facts) words)
          (filter_tree l.program l.registers) (At l.first) (filter_tree l.program l.registers) (At l.index);
      size : tree_size l.program l.index + l.steps ≤ tree_size l.program l.first;
      most : l.steps ≤ l.most;
    }

abbrev pub decreases-loop-steps : goal.decreases-loop-steps
decreases-loop-steps g l = l.most - l.steps
