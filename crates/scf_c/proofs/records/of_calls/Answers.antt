use Rattle.scf_c.proofs.RecordLemmas.{calls_more}
use Rattle.scf_c.proofs.records.of_calls.Goals as goal

pub loop-owned-preserved : goal.loop-owned-preserved
loop-owned-preserved c =
    calls_more c.args.left c.args.right c.args.tables.now _ c.owned-item.result _ c.in_ok-added.added.items _
    c.loop-owned-test.true c.owned-item.is c.loop-owned.invariant
    (c.in_ok-calls.calls.items, c.in_ok-calls.ensures, rw c.deref.ensures.value at c.in_ok-added.ensures)
    (rw c.deref-in-loop-owned.ensures.value at c.in_ok-extend_from_slice.ensures.items)
