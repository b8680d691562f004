use Rattle.scf_profile.proofs.Common.{sym, arith, nat_tests, common_steps}
use Rattle.scf_profile.proofs.NameSearch.{above_from, absent, below_to, found}
use Rattle.scf_profile.proofs.table.number_in.Goals as goal

pub loop-low-preserved-in-Less : goal.loop-low-preserved-in-Less
loop-low-preserved-in-Less c = grind (arith, common_steps, nat_tests, above_from, c.loop-low.invariant, c.order_of.ensures, c.requires)

pub loop-low-preserved : goal.loop-low-preserved
loop-low-preserved c = grind (arith, common_steps, nat_tests, below_to, c.loop-low.invariant, c.order_of.ensures, c.requires)

pub returns-in-Equal : goal.returns-in-Equal
returns-in-Equal c = grind (arith, common_steps, nat_tests, found, c.order_of.ensures, c.number.ensures, c.requires, c.loop-low.invariant.inside)

pub returns : goal.returns
returns c =
    let invariant = c.loop-low.invariant in
    sym (absent c.args.entries.now c.requires c.args.name c.loop-low.low c.loop-low.high invariant.below invariant.above
    (omega (arith, c.loop-low-test.false)))
