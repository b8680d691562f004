use Rattle.scf_compile.proofs.Common.{length}
use Rattle.scf_compile.proofs.search.+put_search.Given as goal

abbrev pub decreases-put_search : goal.decreases-put_search
decreases-put_search l = length l.ranges.now
