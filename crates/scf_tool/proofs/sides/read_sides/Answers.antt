use Rattle.scf_tool.proofs.Common.{err_from_is_err_and, map}
use Rattle.scf_tool.proofs.SideLemmas.{open_has_stack}
use Rattle.scf_tool.specs.Inputs.{named_of}
use Rattle.scf_tool.specs.Inputs.AreRefused.{by_left_filters, by_left_profile, by_right_filters, by_right_profile, by_tables}
use Rattle.scf_tool.specs.internal.Sides.{side_bytes}
use Rattle.scf_tool.proofs.sides.read_sides.Goals as goal

pub returns-in_err-open_left-clause-refused : goal.returns-in_err-open_left-clause-refused
returns-in_err-open_left-clause-refused c =
    let p = err_from_is_err_and c.from_residual.result c.from_residual.ensures.1 in
    rw (p.1, p.2) (by_left_filters _ c.in_err-open_left.ensures.refused)

pub returns-in-Err-clause-refused : goal.returns-in-Err-clause-refused
returns-in-Err-clause-refused c =
    by_right_filters _
    (open_has_stack (side_bytes c.args.inputs.left) c.in_ok-open_left.open_left c.in_ok-open_left.ensures.filters)
    c.in-Err.ensures.refused

pub returns-in_err-tables-clause-refused : goal.returns-in_err-tables-clause-refused
returns-in_err-tables-clause-refused c =
    let p = err_from_is_err_and c.from_residual-in_err-tables.result c.from_residual-in_err-tables.ensures.1 in
    rw (p.1, p.2) (by_tables _
    (open_has_stack (side_bytes c.args.inputs.left) c.in_ok-open_left.open_left c.in_ok-open_left.ensures.filters)
    (open_has_stack (side_bytes c.args.inputs.right) c.in-Ok.side c.in-Ok.ensures.filters)
    (rw c.deref.ensures.value at c.in_err-tables.ensures.refused))

pub returns-in_err-left-clause-refused : goal.returns-in_err-left-clause-refused
returns-in_err-left-clause-refused c =
    let p = err_from_is_err_and c.from_residual-in_err-left.result c.from_residual-in_err-left.ensures.1 in
    let refused = c.in_err-left.ensures (side_bytes c.args.inputs.left) c.in_ok-open_left.ensures.filters in
    rw (p.1, p.2) (by_left_profile _ (map named_of c.in_ok-tables.tables.items)
    (open_has_stack (side_bytes c.args.inputs.left) c.in_ok-open_left.open_left c.in_ok-open_left.ensures.filters)
    (open_has_stack (side_bytes c.args.inputs.right) c.in-Ok.side c.in-Ok.ensures.filters)
    (rw c.deref.ensures.value at c.in_ok-tables.ensures.tables) (rw c.deref-2.ensures.value at refused))

pub returns-in-Err-read_side-clause-refused : goal.returns-in-Err-read_side-clause-refused
returns-in-Err-read_side-clause-refused c =
    let left = c.in_ok-left.ensures (side_bytes c.args.inputs.left) c.in_ok-open_left.ensures.filters in
    let refused = c.in-Err-read_side.ensures (side_bytes c.args.inputs.right) c.in-Ok.ensures.filters in
    rw c.is_profile-beside.ensures
    (by_right_profile c.in-Err-read_side.why (map named_of c.in_ok-tables.tables.items) c.in_ok-left.left
    (open_has_stack (side_bytes c.args.inputs.right) c.in-Ok.side c.in-Ok.ensures.filters)
    (rw c.deref.ensures.value at c.in_ok-tables.ensures.tables) (rw c.deref-2.ensures.value at left)
    (rw c.deref-3.ensures.value at refused))
