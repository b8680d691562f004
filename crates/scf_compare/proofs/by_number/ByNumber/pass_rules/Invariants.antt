use Rattle.scf_compare.proofs.Common.{◌-◌, ◌+◌, ◌≤◌, ℕ, List, IsAtRule, IsWords, call_of, drop, length, own_rules, rules_size}
use Rattle.scf_compare.proofs.by_number.ByNumber.pass_rules.Given as goal

abbrev pub invariant-loop-rule : goal.invariant-loop-rule
invariant-loop-rule g l =
    let own = own_rules l.self.numbers l.fn.at.number in
    record {
      inside : l.rule ≤ length own;
      most : l.steps ≤ l.most;
      met : (words : List ℕ) → IsWords words → g.F.WordFacts.allows l.facts (g.F.WordFacts.level l.facts) words
          → IsAtRule l.self l.fn.at.number l.fn.at.rule (call_of words) → IsAtRule l.self l.fn.at.number l.rule (call_of words);
      size : rules_size (drop l.rule own) + l.steps ≤ rules_size (drop l.fn.at.rule own);
    }

abbrev pub decreases-loop-rule : goal.decreases-loop-rule
decreases-loop-rule g l = length l.rules - l.rule
