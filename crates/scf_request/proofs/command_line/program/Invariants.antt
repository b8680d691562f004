use Rattle.scf_request.proofs.Common.{◌≡◌, app_of, program_of, take}
use Rattle.scf_request.proofs.command_line.program.Given as goal

abbrev pub invariant-loop-definition : goal.invariant-loop-definition
invariant-loop-definition l = app_of l.program ≡ program_of (take l.definition-index l.definitions)
