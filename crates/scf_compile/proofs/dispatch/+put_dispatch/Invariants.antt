use Rattle.scf_compile.proofs.Common.{length}
use Rattle.scf_compile.proofs.dispatch.+put_dispatch.Given as goal

abbrev pub decreases-put_dispatch : goal.decreases-put_dispatch
decreases-put_dispatch l = length l.searches.now
