use Rattle.scf_machine.proofs.Common.{arith, common_steps, slice_get-get_or}
use Rattle.scf_machine.proofs.Runs.{fine_of}
use Rattle.scf_machine.proofs.checker.known_at.Goals as goal

pub unreachable-requires : goal.unreachable-requires
unreachable-requires c =
    grind (arith, common_steps, slice_get-get_or, c.requires.valid.each _ c.requires.inside)

pub returns-clause-fine : goal.returns-clause-fine
returns-clause-fine c =
    grind (arith, common_steps, fine_of, slice_get-get_or, c.requires.valid.each _ c.requires.inside)
