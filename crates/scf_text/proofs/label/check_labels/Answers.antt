use Rattle.scf_text.proofs.Common.{ap}
use Rattle.scf_text.specs.declared.fault.TextFault.TheVariants as fault
use Rattle.scf_text.proofs.label.check_labels.Goals as goal

pub returns-in-Some-clause-tells : goal.returns-in-Some-clause-tells
returns-in-Some-clause-tells c = λ apart. (c.in-Some.label, c.in-Some.ensures apart, ap fault.Label c.line_at.ensures)
