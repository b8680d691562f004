use Rattle.scf_request.proofs.Common.{length}
use Rattle.scf_request.proofs.options.+numbers_in.Given as goal

abbrev pub decreases-numbers_in : goal.decreases-numbers_in
decreases-numbers_in l = length l.options.now
