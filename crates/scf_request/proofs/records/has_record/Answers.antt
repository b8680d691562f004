use Rattle.scf_request.proofs.RecordLemmas.{numbers_meet}
use Rattle.scf_request.proofs.records.has_record.Goals as goal

pub returns-in-Numbers : goal.returns-in-Numbers
returns-in-Numbers c = rw (c.in-Numbers.is, c.max.ensures, c.first.ensures, c.min.ensures, c.last.ensures)
    (numbers_meet c.in-Numbers.architecture c.in-Numbers.first c.in-Numbers.last)
