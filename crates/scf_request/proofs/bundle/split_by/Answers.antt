use Rattle.scf_request.proofs.Common.{◌+◌, arith, err_from_is_err_and}
use Rattle.scf_request.proofs.BundleLemmas.{breaks, fault_no_parts, next_part, no_part_behind}
use Rattle.scf_request.proofs.bundle.split_by.Goals as goal

pub returns-in_err-part-clause-none : goal.returns-in_err-part-clause-none
returns-in_err-part-clause-none c =
    let stopped = err_from_is_err_and c.from_residual.result c.from_residual.ensures.1 in
    let here = breaks c.args.kinds.now c.args.bytes.now c.loop-offset.offset c.loop-offset.parts.items c.in_err-part.field-0.0
    c.loop-offset.invariant.spelled c.in_err-part.ensures.fault in
    rw (stopped.1, stopped.2) (fault_no_parts c.args.kinds.now c.args.bytes.now c.in_err-part.field-0.0 here)

pub returns-then-is_err-clause-first : goal.returns-then-is_err-clause-first
returns-then-is_err-clause-first c =
    let part = c.in_ok-part.part in
    let inside = c.in_ok-part.ensures.inside in
    λ first bad.
    absurd (no_part_behind c.args.kinds.now c.args.bytes.now (part.start + part.length) c.loop-offset.parts.items part first bad
    (next_part c.args.kinds.now c.args.bytes.now c.loop-offset.offset _ c.loop-offset.parts.items part c.loop-offset.invariant.inside
    (omega (arith, inside.0)) c.loop-offset.invariant.spelled c.in_ok-part.ensures.part))
