use Rattle.scf_machine.proofs.Common.{refl}
use Rattle.scf_machine.proofs.Refusals.{only_where}
use Rattle.scf_machine.proofs.Runs.{runs_safely}
use Rattle.scf_machine.proofs.checker.check.Goals as goal

pub returns-in-Ok-clause-accepted : goal.returns-in-Ok-clause-accepted
returns-in-Ok-clause-accepted c = let ok = rw c.deref.ensures.value at c.in-Ok.ensures.ok in (refl, ok.valid, ok.stored)

pub returns-in-Ok-clause-safe : goal.returns-in-Ok-clause-safe
returns-in-Ok-clause-safe c = λ words.
    let ok = rw c.deref.ensures.value at c.in-Ok.ensures.ok in
    runs_safely c.args.insns.items words ok.valid ok.stored

pub returns-in-Err-clause-only_where : goal.returns-in-Err-clause-only_where
returns-in-Err-clause-only_where c = λ n v k.
    let f = rw c.deref.ensures.value at c.in-Err.ensures.err in
    only_where c.args.insns.items c.in-Err.fault f n v k

pub returns-in-Err-clause-refused : goal.returns-in-Err-clause-refused
returns-in-Err-clause-refused c = rw c.deref.ensures.value at c.in-Err.ensures.err
