use Rattle.scf_request.specs.Contents.{rest_of_table}
use Rattle.scf_tool.proofs.Common.{err_from_is_err_and, false, map}
use Rattle.scf_tool.proofs.TableLemmas.{cant_load, spelled}
use Rattle.scf_tool.specs.Inputs.{named_of}
use Rattle.scf_tool.proofs.loading.load_with_tables.Goals as goal

pub returns-in_err-owned-clause-fault : goal.returns-in_err-owned-clause-fault
returns-in_err-owned-clause-fault c =
    let p = err_from_is_err_and c.from_residual.result c.from_residual.ensures.1 in
    rw (p.1, p.2) (cant_load c.args.by.now c.args.profile.now
    (map rest_of_table c.args.tables.now) c.in_err-owned.field-0.0 c.in_err-owned.ensures.refused)

pub returns-in_err-load_under-clause-fault : goal.returns-in_err-load_under-clause-fault
returns-in_err-load_under-clause-fault c =
    let p = err_from_is_err_and c.from_residual-in_err-load_under.result c.from_residual-in_err-load_under.ensures.1 in
    rw (p.1, p.2) (
      map named_of c.in_ok-owned.owned.items,
      spelled false (map rest_of_table c.args.tables.now) (map named_of c.in_ok-owned.owned.items)
          c.in_ok-owned.ensures.tables,
      rw c.deref.ensures.value at c.in_err-load_under.ensures.err,
    )

pub returns-clause-stated : goal.returns-clause-stated
returns-clause-stated c =
    let each = spelled false (map rest_of_table c.args.tables.now)
    (map named_of c.in_ok-owned.owned.items) c.in_ok-owned.ensures.tables in
    let stated = rw c.deref.ensures.value at c.in_ok-load_under.ensures.ok in
    record { tables = map named_of c.in_ok-owned.owned.items; are_tables = each; loads = stated }
