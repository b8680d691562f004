-- Exit statuses: their numbers, and how a run of a command leaves standard input.
use Rattle.std.specs.Prelude.{◌≡◌, ℕ, List, Option, Result, Err}
use Rattle.scf_insn.specs.declared.input.InputFault.TheVariants as inputs
use Rattle.scf_tool.specs.declared.fault.Fault.{Fault}
use Rattle.scf_tool.specs.declared.fault.Fault.TheVariants.{Input, Sides}
use Rattle.scf_request.specs.declared.request.Command.{Command}
use Rattle.scf_request.specs.declared.request.Command.TheVariants as commands
use Rattle.scf_tool.specs.declared.status.Status.{Status}
use Rattle.scf_tool.specs.declared.status.Status.TheVariants.{Success, Refused, Differs, CommandLine, Failed, Unknown}
use Rattle.scf_tool.specs.Verifying.{HasEnded, HasFailedWhere, LeavesFilterReader}

abbrev pub status_code : Status → ℕ
status_code Success = 0
status_code Refused = 1
status_code Differs = 1
status_code CommandLine = 2
status_code Failed = 3
status_code Unknown = 4

-- How a command leaves standard input that is one filter: it came to its end, or the filter isn't read.
abbrev pub LeavesFilter : {R T : Type 0} → (R → Option (List ℕ)) → (R → ℕ) → R → Result T Fault → R → Type 0
LeavesFilter {T} remaining failures old (Err (Sides fault)) new =
    LeavesFilterReader {T = T} remaining failures old (Err fault.why) new
LeavesFilter remaining failures old ending new = HasEnded remaining failures old new

-- And one that is read whole: it came to its end, and failed only where that is the fault.
abbrev pub LeavesWhole : {R T : Type 0} → (R → Option (List ℕ)) → (R → ℕ) → R → Result T Fault → R → Type 0
LeavesWhole remaining failures old (Err (Input fault)) new = HasFailedWhere (fault ≡ inputs.Read) failures old new
LeavesWhole remaining failures old ending new = HasEnded remaining failures old new

-- by what is asked for
abbrev pub LeavesInput : {R T : Type 0} → Command → (R → Option (List ℕ)) → (R → ℕ) → R → Result T Fault → R → Type 0
LeavesInput commands.Check = LeavesFilter
LeavesInput commands.List = LeavesFilter
LeavesInput (commands.Run call has_path) = LeavesFilter
LeavesInput command = LeavesWhole
