use Rattle.scf_profile.proofs.NamesOf.{call_numbers_updated}
use Rattle.scf_profile.proofs.table.add_line.Goals as goal

pub returns-in-Ok-None-clause-range : goal.returns-in-Ok-None-clause-range
returns-in-Ok-None-clause-range c = λ each.
    call_numbers_updated c.args.numbers.now c.insert.new.self c.new.result c.in-Some.number
    c.in-Ok-None.ensures.updates each (rw c.in-Some.is at c.in_ok-name.ensures.range)
