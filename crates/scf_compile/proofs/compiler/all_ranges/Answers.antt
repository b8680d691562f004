use Rattle.scf_compile.proofs.Common.{arith}
use Rattle.scf_compile.proofs.compiler.all_ranges.Goals as goal

pub returns-clause-ranges : goal.returns-clause-ranges
returns-clause-ranges c =
    let last = rw c.architecture.ensures at c.last.ensures in
    record {
      first = c.in_ok-ranges.ranges.items;
      laid = c.in_ok-ranges.ensures.ranges;
      some = λ lt. rw (c.from.ensures, last) at c.in_ok-fill.ensures.some (omega arith);
      none = λ all. c.in_ok-fill.ensures.none (omega arith);
    }
