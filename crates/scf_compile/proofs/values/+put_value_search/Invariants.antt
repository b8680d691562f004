use Rattle.scf_compile.proofs.Common.{length}
use Rattle.scf_compile.proofs.values.+put_value_search.Given as goal

abbrev pub decreases-put_value_search : goal.decreases-put_value_search
decreases-put_value_search l = length l.values.now
