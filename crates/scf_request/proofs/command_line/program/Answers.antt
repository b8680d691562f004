use Rattle.scf_request.proofs.Common.{◌∙◌, refl}
use Rattle.scf_request.proofs.CommandLineLemmas.{one_more_command, program_more}
use Rattle.scf_request.proofs.command_line.program.Goals as goal

pub loop-definition-preserved : goal.loop-definition-preserved
loop-definition-preserved c =
    one_more_command _ _ c.in_ok-program.program _ _ c.in_ok-program.ensures refl
    c.in_ok-define.ensures refl
    ∙ program_more c.args.definitions.now c.loop-definition.definition-index _ c.loop-definition-test.true
    _ c.loop-definition.invariant
