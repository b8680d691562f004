use Rattle.scf_profile.proofs.Common.{arith, nat_tests, common_steps}
use Rattle.scf_profile.proofs.Loops.{is_found, list_any-map}
use Rattle.scf_profile.proofs.expand.has_table.Goals as goal

pub returns : goal.returns
returns c = grind (arith, common_steps, nat_tests, is_found, list_any-map, c.is_some.ensures, c.table_named.ensures)
