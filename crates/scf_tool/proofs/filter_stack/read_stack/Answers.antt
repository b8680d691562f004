use Rattle.scf_tool.proofs.Common.{arith, err_from_is_err_and}
use Rattle.scf_tool.proofs.StackLemmas.{no_stack, readers_stop, same_from, stack_grows}
use Rattle.scf_tool.proofs.filter_stack.read_stack.Goals as goal

pub loop-reader-preserved : goal.loop-reader-preserved
loop-reader-preserved g c =
    let from = same_from c.loop-reader.reader-index c.args.readers.now c.loop-reader.readers c.reader-item.result
    (omega (arith, c.loop-reader-test.true, c.loop-reader.auto.readers)) c.reader-item.is c.loop-reader.invariant.same in
    stack_grows g.R.Source.remaining g.R.Source.failures _ _ _ _ _ _ _ from c.loop-reader.invariant
    c.in_ok-push_filter.ensures.pushed c.in_ok-push_filter.ensures.ended

pub returns-in_err-push_filter-clause-refused : goal.returns-in_err-push_filter-clause-refused
returns-in_err-push_filter-clause-refused g c =
    let from = same_from c.loop-reader.reader-index c.args.readers.now c.loop-reader.readers c.reader-item.result
    (omega (arith, c.loop-reader-test.true, c.loop-reader.auto.readers)) c.reader-item.is c.loop-reader.invariant.same in
    let p = err_from_is_err_and c.from_residual.result c.from_residual.ensures.1 in
    rw (p.1, p.2) (no_stack g.R.Source.remaining g.R.Source.failures _ _ _ _ _ c.in_err-push_filter.field-0.0 from
    c.loop-reader.invariant c.in_err-push_filter.ensures.refused)

pub returns-in_err-push_filter-clause-stopped : goal.returns-in_err-push_filter-clause-stopped
returns-in_err-push_filter-clause-stopped g c =
    let from = same_from c.loop-reader.reader-index c.args.readers.now c.loop-reader.readers c.reader-item.result
    (omega (arith, c.loop-reader-test.true, c.loop-reader.auto.readers)) c.reader-item.is c.loop-reader.invariant.same in
    let p = err_from_is_err_and c.from_residual.result c.from_residual.ensures.1 in
    rw (p.1, p.2) (readers_stop _ _ _ _ _ _ _ _ _ _ from c.loop-reader.invariant c.in_err-push_filter.ensures.reader)
