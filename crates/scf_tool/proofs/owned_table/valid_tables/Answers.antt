use Rattle.scf_tool.proofs.Common.{false, map}
use Rattle.scf_tool.proofs.TableLemmas.{spelled}
use Rattle.scf_tool.specs.Inputs.{named_of}
use Rattle.scf_tool.proofs.owned_table.valid_tables.Goals as goal

pub returns-in-Ok-clause-tables : goal.returns-in-Ok-clause-tables
returns-in-Ok-clause-tables c =
    spelled false _ (map named_of c.in-Ok.tables.items) c.in-Ok.ensures.tables
