use Rattle.scf_compile.proofs.Common.{arith, nat_tests, common_steps}
use Rattle.scf_compile.proofs.compiler.put_ranges.Goals as goal

pub put_search-requires-clause-few : goal.put_search-requires-clause-few
put_search-requires-clause-few c = let few = c.requires.ranges.few in omega (arith, c.number_count.ensures.count)

pub put_search-requires-clause-rules : goal.put_search-requires-clause-rules
put_search-requires-clause-rules c = rw c.architecture.ensures c.requires.ranges.rules

pub returns : goal.returns
returns c = grind (arith, common_steps, nat_tests, c.architecture.ensures, c.default_answer.ensures, c.number_count.ensures.count, c.in_ok-index.ensures)
