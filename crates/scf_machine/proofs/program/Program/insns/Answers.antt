use Rattle.scf_machine.proofs.Runs.{runs_safely}
use Rattle.scf_machine.proofs.program.Program.insns.Goals as goal

pub returns-clause-stored : goal.returns-clause-stored
returns-clause-stored c = rw (← c.self.view_is) c.self.invariant.stored

pub returns-clause-safe : goal.returns-clause-safe
returns-clause-safe c =
    λ words. rw (← c.self.view_is) (runs_safely _ words c.self.invariant.valid c.self.invariant.stored)
