use Rattle.scf_request.proofs.Common.{◌≡◌, take, held_by, held_of}
use Rattle.scf_request.proofs.contents.Contents.of.Given as goal

abbrev pub invariant-loop-part : goal.invariant-loop-part
invariant-loop-part l = held_by l.contents ≡ held_of l.bytes (take l.part-index l.part-items)
