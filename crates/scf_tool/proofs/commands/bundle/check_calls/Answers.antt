use Rattle.scf_tool.proofs.ScopeLemmas.{not_valid}
use Rattle.scf_tool.proofs.commands.bundle.check_calls.Goals as goal

pub returns-in_default-clause-some : goal.returns-in_default-clause-some
returns-in_default-clause-some c = not_valid _ (rw c.in_default.is at c.in_ok-read.ensures.tables)
