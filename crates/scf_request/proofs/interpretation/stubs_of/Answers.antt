use Rattle.scf_request.proofs.Common.{◌∙◌, sym}
use Rattle.scf_request.proofs.InterpretationLemmas.{no_stub, stub_added}
use Rattle.scf_request.proofs.interpretation.stubs_of.Goals as goal
use Rattle.scf_request.proofs.interpretation.stubs_of.Goals.{in-Some+in_ok-push, in_default}

pub loop-part-preserved : goal.loop-part-preserved
loop-part-preserved c = elim c.match-stub_of.branch [
  | in-Some+in_ok-push w ↦ rw w.stubs-is (stub_added c.args.parts.now c.loop-part.part-index _ c.loop-part-test.true
      c.loop-part.stubs.items c.loop-part.invariant w.in-Some.stub _ (sym c.stub_of.ensures ∙ w.in-Some.is)
      w.in_ok-push.ensures.items)
  | in_default w ↦ rw w.stubs-is (no_stub c.args.parts.now c.loop-part.part-index _ c.loop-part-test.true
      c.loop-part.stubs.items c.loop-part.invariant (sym c.stub_of.ensures ∙ w.in_default.is))
]
