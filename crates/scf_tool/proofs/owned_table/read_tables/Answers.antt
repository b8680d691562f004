use Rattle.scf_tool.proofs.Common.{err_from_is_err_and}
use Rattle.scf_tool.proofs.TableLemmas.{no_part, part_more}
use Rattle.scf_tool.proofs.owned_table.read_tables.Goals as goal

pub loop-part-preserved : goal.loop-part-preserved
loop-part-preserved c =
    part_more c.args.is_limited _ _ _ c.loop-part-test.true _ c.loop-part.invariant _ c.in_ok-table.table
    c.in-Ok.ensures.items (rw c.rest.ensures at c.in_ok-table.ensures.short)
    (rw c.rest.ensures at c.in_ok-table.ensures.table)

pub returns-in_err-table-clause-refused : goal.returns-in_err-table-clause-refused
returns-in_err-table-clause-refused c =
    let p = err_from_is_err_and c.from_residual.result c.from_residual.ensures.1 in
    rw (p.1, p.2) (no_part c.args.is_limited _ _ _ c.loop-part-test.true _ c.loop-part.invariant _
    (rw c.rest.ensures at c.in_err-table.ensures.refused))
