use Rattle.scf_compile.proofs.Common.{◌≤◌, drop, length, AnswersRules}
use Rattle.scf_compile.proofs.rules.rules_block.Given as goal

-- the code of the rules from an index on
abbrev pub invariant-loop-end : goal.invariant-loop-end
invariant-loop-end l = record {
  inside : l.end ≤ length l.rules;
  put : AnswersRules l.architecture l.fn.default (drop l.end l.rules) l.block.items;
}

abbrev pub decreases-loop-end : goal.decreases-loop-end
decreases-loop-end l = l.end
