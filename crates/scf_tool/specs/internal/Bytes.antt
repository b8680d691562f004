-- Commands that read all of standard input.
use Rattle.scf_request.specs.declared.request.Command.{Command}
use Rattle.scf_request.specs.declared.request.Command.TheVariants as commands

-- commands for which all of the input is read first
abbrev pub TakesWhole : Command → Type 0
TakesWhole commands.Check = ⊥
TakesWhole commands.List = ⊥
TakesWhole (commands.Run call has_path) = ⊥
TakesWhole command = Unit {0}
