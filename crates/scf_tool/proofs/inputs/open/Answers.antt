use Rattle.scf_request.specs.Contents.{held_by}
use Rattle.scf_tool.proofs.inputs.open.Goals as goal

pub returns-in-Some-clause-inputs : goal.returns-in-Some-clause-inputs
returns-in-Some-clause-inputs c = (
  held_by c.in_ok-contents.contents,
  c.in_ok-contents.ensures.bundle,
  rw c.in-Some.is at c.in_ok-inputs.ensures.inputs,
)

pub returns-in-None-clause-fault : goal.returns-in-None-clause-fault
returns-in-None-clause-fault c = (
  held_by c.in_ok-contents.contents,
  c.in_ok-contents.ensures.bundle,
  rw c.in-None.is at c.in_ok-inputs.ensures.inputs,
)
