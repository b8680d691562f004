use Rattle.scf_machine.proofs.Common.{sym}
use Rattle.scf_machine.proofs.machine.Registers.compute.Goals as goal

pub returns : goal.returns
returns c = λ s v stand e. c.set.ensures s _ stand (rw (stand.a, e) (sym c.compute.ensures))
