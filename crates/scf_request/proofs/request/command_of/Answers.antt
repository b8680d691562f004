use Rattle.scf_request.proofs.Common.{Ask, Compare, Decide, Run, err_from_is_err_and, refl}
use Rattle.scf_request.proofs.request.command_of.Goals as goal

pub returns-in_err-call_of-in-ask-clause-fault : goal.returns-in_err-call_of-in-ask-clause-fault
returns-in_err-call_of-in-ask-clause-fault c =
    let p = err_from_is_err_and c.from_residual.result c.from_residual.ensures.1 in
    rw (p.1, p.2, c.in-ask.is) (c.in_err-call_of-in-ask.ensures.fault Ask refl)

pub returns-in_err-comparison_of-in-compare-clause-fault : goal.returns-in_err-comparison_of-in-compare-clause-fault
returns-in_err-comparison_of-in-compare-clause-fault c =
    let p = err_from_is_err_and c.from_residual-in_err-comparison_of-in-compare.result
    c.from_residual-in_err-comparison_of-in-compare.ensures.1 in
    rw (p.1, p.2, c.in-compare.is) (c.in_err-comparison_of-in-compare.ensures.fault Compare refl)

pub returns-in_err-call-in-decide-clause-fault : goal.returns-in_err-call-in-decide-clause-fault
returns-in_err-call-in-decide-clause-fault c =
    let p = err_from_is_err_and c.from_residual-in_err-call-in-decide.result
    c.from_residual-in_err-call-in-decide.ensures.1 in
    rw (p.1, p.2, c.in-decide.is) (c.in_err-call-in-decide.ensures.fault Decide refl)

pub returns-in_err-call-in-run-clause-fault : goal.returns-in_err-call-in-run-clause-fault
returns-in_err-call-in-run-clause-fault c =
    let p = err_from_is_err_and c.from_residual-in_err-call-in-run.result
    c.from_residual-in_err-call-in-run.ensures.1 in
    rw (p.1, p.2, c.in-run.is) (c.in_err-call-in-run.ensures.fault Run refl)
