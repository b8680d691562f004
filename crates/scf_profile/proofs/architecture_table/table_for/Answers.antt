use Rattle.scf_profile.proofs.Common.{Some, None}
use Rattle.scf_profile.proofs.Loops.{table_found}
use Rattle.scf_profile.proofs.architecture_table.table_for.Goals as goal

pub returns-in-Some : goal.returns-in-Some
returns-in-Some c =
    table_found c.args.tables.now c.args.architecture (Some c.in-Some.first.now) (rw (← c.name.ensures) c.in-Some.ensures)

pub returns-in-None : goal.returns-in-None
returns-in-None c =
    table_found c.args.tables.now c.args.architecture None (rw (← c.name.ensures) c.in-None.ensures)
