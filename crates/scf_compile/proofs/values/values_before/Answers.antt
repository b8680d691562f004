use Rattle.scf_compile.proofs.Common.{arith, nat_tests, common_steps}
use Rattle.scf_compile.proofs.ValueSearches.{before_more}
use Rattle.scf_compile.proofs.values.values_before.Goals as goal

pub loop-i-preserved : goal.loop-i-preserved
loop-i-preserved c = grind (arith, common_steps, nat_tests, before_more, c.loop-i.invariant.values, c.loop-i.invariant.count, c.in-Some.ensures, c.is_of_same_argument.ensures)
