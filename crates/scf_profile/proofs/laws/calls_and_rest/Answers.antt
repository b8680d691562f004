use Rattle.scf_profile.proofs.CallsAndRest.{covers}
use Rattle.scf_profile.proofs.laws.calls_and_rest.Goals as goal

pub returns : goal.returns
returns c = covers
