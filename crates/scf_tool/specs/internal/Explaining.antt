-- The reply to arguments that aren't taken.
use Rattle.std.specs.Prelude.{◌≡◌, ◌≢◌, Result, Ok, Err}
use Rattle.clap.specs.declared.error.kind.ErrorKind.{ErrorKind}
use Rattle.clap.specs.declared.error.kind.ErrorKind.TheVariants.{OutOfMemory}
use Rattle.scf_tool.specs.declared.fault.Fault.{Fault}
use Rattle.scf_tool.specs.declared.fault.Fault.TheVariants as faults
use Rattle.scf_tool.specs.declared.reply.Reply.{Reply}
use Rattle.scf_tool.specs.declared.reply.Reply.TheVariants as replies
use Rattle.scf_tool.specs.Runs.{kind_status}

-- The reply to an error in the arguments, by its kind, or memory runs out.
abbrev pub Explains : ErrorKind → Result Reply Fault → Type 0
Explains kind (Ok (replies.CommandLine text status)) = (kind ≢ OutOfMemory) × (status ≡ kind_status kind)
Explains kind (Ok reply) = ⊥
Explains kind (Err fault) = fault ≡ faults.CommandLine
