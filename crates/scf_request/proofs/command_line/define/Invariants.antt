use Rattle.scf_request.proofs.Common.{◌≡◌, ◌++◌, app_of, command_of, flag_rule, map, names_of_flags, options_kept, rules_of_options, take}
use Rattle.scf_request.proofs.command_line.define.Given as goal

abbrev pub invariant-loop-flag : goal.invariant-loop-flag
invariant-loop-flag l = app_of l.command ≡ command_of l.definition.name.now
    (rules_of_options (options_kept l.definition.options.now) l.definition.takes_reading
    ++ map flag_rule (names_of_flags (take l.flag-index l.definition.flags.now)))
