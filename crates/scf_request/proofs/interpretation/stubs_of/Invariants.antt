use Rattle.scf_request.proofs.Common.{◌≡◌, map, rest_of_table, take}
use Rattle.scf_request.specs.Interpretations as spec
use Rattle.scf_request.proofs.interpretation.stubs_of.Given as goal

abbrev pub invariant-loop-part : goal.invariant-loop-part
invariant-loop-part l = l.stubs.items ≡ spec.stubs_of (map rest_of_table (take l.part-index l.parts))
