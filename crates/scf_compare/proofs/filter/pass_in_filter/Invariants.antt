use Rattle.scf_compare.proofs.Common.{◌≡◌, ◌+◌, ◌-◌, ◌≤◌, ℕ, List, IfSome, IsWords, filter_size, filter_tree}
use Rattle.scf_compare.specs.declared.filter.FilterNode.TheVariants.{At}
use Rattle.scf_compare.specs.internal.Trees.{IsLaterNode}
use Rattle.scf_compare.specs.internal.Values.{Abstracts}
use Rattle.scf_compare.proofs.filter.pass_in_filter.Given as goal

abbrev pub invariant-loop-steps : goal.invariant-loop-steps
invariant-loop-steps g l =
    let facts = g.F.WordFacts in
    record {
      later : IsLaterNode (λ words. IsWords words × facts.allows l.facts (facts.level l.facts) words)
          (filter_tree l.program l.fn.registers) l.fn.node (filter_tree l.program l.registers) (At l.index);
      size : filter_size l.program (At l.index) + l.steps ≤ filter_size l.program l.fn.node;
      most : l.steps ≤ l.most;
      asked : l.asked ≤ l.steps;
      number : IfSome l.accumulator (λ number. (words : List ℕ) (x : ℕ) → IsWords words
          → facts.allows l.facts (facts.level l.facts) words → Abstracts l.registers.a words x → x ≡ number);
    }

abbrev pub decreases-loop-steps : goal.decreases-loop-steps
decreases-loop-steps g l = l.most - l.steps
