use Rattle.scf_request.proofs.ContentLemmas.{held_more}
use Rattle.scf_request.proofs.contents.Contents.of.Goals as goal

pub loop-part-preserved : goal.loop-part-preserved
loop-part-preserved c =
    held_more c.args.bytes.now _ c.deref-part-items.result.now c.loop-part.part-index _ _ _ c.loop-part-test.true
    c.content_of.ensures c.loop-part.invariant c.in_ok-add.ensures
