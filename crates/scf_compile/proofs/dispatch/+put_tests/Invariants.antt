use Rattle.scf_compile.proofs.Common.{length}
use Rattle.scf_compile.proofs.dispatch.+put_tests.Given as goal

abbrev pub decreases-put_tests : goal.decreases-put_tests
decreases-put_tests l = length l.searches.now
