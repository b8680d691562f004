use Rattle.scf_compile.proofs.Common.{arith}
use Rattle.scf_compile.proofs.Laying.{laid_none, laid_own, laid_all}
use Rattle.scf_compile.proofs.ranges.ranges_of.Goals as goal

pub loop-number_rules-init : goal.loop-number_rules-init
loop-number_rules-init c = λ rules are.
    rw (c.new-ranges.ensures.items, c.from-next.ensures, c.first.ensures)
    (laid_none c.args.architecture c.args.default c.args.numbers.now rules c.requires.first)

pub loop-number_rules-preserved : goal.loop-number_rules-preserved
loop-number_rules-preserved c = λ rules are.
    let below = rw (← c.number_rules-item.is) at (c.requires.last c.loop-number_rules.number_rules-index c.number_rules-item.result c.loop-number_rules-test.true) in
    rw c.from-number.ensures (laid_own c.args.numbers.now rules are (c.loop-number_rules.invariant rules are) c.number_rules-item.result
    c.number_rules-item.is c.loop-number_rules-test.true below (rw c.from-number.ensures at c.in_ok-fill.ensures.some)
    (rw c.from-number.ensures at c.in_ok-fill.ensures.none) c.effective_rules.ensures c.in_ok-add_range.ensures)

pub returns : goal.returns
returns c = λ rules are.
    let last = (rw c.last.ensures at c.from.ensures) in
    laid_all c.args.numbers.now rules are (c.loop-number_rules.invariant rules are) (omega arith)
    (rw last at c.in_ok-fill-2.ensures.some) (rw last at c.in_ok-fill-2.ensures.none)
