use Rattle.scf_compare.proofs.Common.{refl, [], start}
use Rattle.scf_compare.proofs.filter.start_in_filter.Goals as goal

pub returns-clause-reached : goal.returns-clause-reached
returns-clause-reached c = λ words.
    record { state = start; earlier = []; chain = refl; there = refl; describes = c.restart.ensures.describes words }

pub returns-clause-plain : goal.returns-clause-plain
returns-clause-plain c = λ masks program. (program, c.restart.ensures.plain masks (program.under 0))
