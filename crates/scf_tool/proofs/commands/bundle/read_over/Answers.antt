use Rattle.scf_tool.proofs.Common.{err_from_is_err_and, inl, inr}
use Rattle.scf_tool.proofs.commands.bundle.read_over.Goals as goal

pub returns-in_err-read-clause-refused : goal.returns-in_err-read-clause-refused
returns-in_err-read-clause-refused c =
    let p = err_from_is_err_and c.from_residual.result c.from_residual.ensures.1 in
    rw (p.1, p.2) (elim (rw c.deref.ensures.value at c.in_err-read.ensures.fault) [
      | inl none ↦ inl none
      | inr memory ↦ inr (inl memory)
    ])
