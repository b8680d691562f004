use Rattle.scf_request.proofs.Common.{◌≡◌, app_of, command_of, map, option_rule, options_kept, take}
use Rattle.scf_request.proofs.command_line.command_with.Given as goal

abbrev pub invariant-loop-option : goal.invariant-loop-option
invariant-loop-option l = app_of l.command
    ≡ command_of l.definition.name.now (map option_rule (options_kept (take l.option-index l.definition.options.now)))
