use Rattle.scf_request.proofs.Common.{◌≡◌, take}
use Rattle.scf_request.specs.Interpretations.{stubbed}
use Rattle.scf_request.proofs.interpretation.Interpretation.each_with_stubs.Given as goal

abbrev pub invariant-loop-stub : goal.invariant-loop-stub
invariant-loop-stub l = l.profiles ≡ stubbed (take l.stub-index l.stub-items) l.fn.profiles
