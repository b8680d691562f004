use Rattle.scf_compile.proofs.Common.{List, Rule, AreNumbersOf}
use Rattle.scf_compile.proofs.Laying.{AreLaid}
use Rattle.scf_compile.proofs.ranges.ranges_of.Given as goal

-- the numbers so far are laid, of whatever rules they are
abbrev pub invariant-loop-number_rules : goal.invariant-loop-number_rules
invariant-loop-number_rules l = (rules : List Rule) → AreNumbersOf l.numbers rules
    → AreLaid l.architecture l.default l.numbers rules l.ranges.items l.next l.number_rules-index
