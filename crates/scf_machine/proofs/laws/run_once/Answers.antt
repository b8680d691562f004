use Rattle.scf_machine.proofs.Meets as meets
use Rattle.scf_machine.proofs.laws.run_once.Goals as goal

pub returns : goal.returns
returns c = meets.run_once
