-- Whole runs of the program: from its words and standard input to what it prints and its exit status.
use Rattle.std.specs.Prelude.{◌≡◌, ◌⊎◌, ℕ, List, [], codes, Option, Result, Ok, Err}
use Rattle.clap.specs.Words.{IsAmong, Text, fault_of, subcommand_of}
use Rattle.clap.specs.declared.error.kind.ErrorKind.{ErrorKind}
use Rattle.clap.specs.declared.error.kind.ErrorKind.TheVariants.{DisplayHelp, DisplayVersion}
use Rattle.scf_insn.specs.Streams.{TakesAll, TakesBeginning}
use Rattle.scf_request.specs.CommandLine.{scf}
use Rattle.scf_request.specs.Requests.{AsksFor}
use Rattle.scf_request.specs.declared.request.Request.{Request}
use Rattle.scf_tool.specs.declared.fault.Fault.{Fault}
use Rattle.scf_tool.specs.declared.fault.Fault.TheVariants as faults
use Rattle.scf_tool.specs.declared.reply.Reply.{Reply}
use Rattle.scf_tool.specs.declared.reply.Reply.TheVariants as replies
use Rattle.scf_tool.specs.declared.status.Status.{Status}
use Rattle.scf_tool.specs.declared.status.Status.TheVariants.{Success, CommandLine}
use Rattle.scf_tool.specs.Commands.{IsTrueOf}
use Rattle.scf_tool.specs.Replies.{printed}
use Rattle.scf_tool.specs.Statuses.{LeavesInput, status_code}

-- help and the version are well
abbrev pub kind_status : ErrorKind → Status
kind_status DisplayHelp = Success
kind_status DisplayVersion = Success
kind_status kind = CommandLine

-- The words are refused, or ask for help, for one of the reasons that the command line's reader has; or they are taken,
-- but ask for nothing that can be done. In place of anything memory may run out.
abbrev pub SpeaksOfWords : List Text → Result Reply Fault → Type 0
SpeaksOfWords words (Ok (replies.CommandLine text status)) =
    (kind : ErrorKind) × IsAmong kind (fault_of scf words) × (status ≡ kind_status kind)
SpeaksOfWords words (Ok reply) = ⊥
SpeaksOfWords words (Err faults.CommandLine) = Unit {0}
SpeaksOfWords words (Err (faults.Request fault)) =
    (fault_of scf words ≡ []) × AsksFor (subcommand_of scf words) (Err fault)
SpeaksOfWords words (Err fault) = ⊥

-- The words ask for this, and what the run ends with is true of standard input.
pub record IsAnswered {R : Type 0} (words : List Text) (remaining : R → Option (List ℕ)) (failures : R → ℕ)
    (old : R) (ending : Result Reply Fault) (new : R) : Type 0 where
  pub taken : fault_of scf words ≡ []
  pub request : Request
  pub asked : AsksFor (subcommand_of scf words) (Ok request)
  pub answered : IsTrueOf request.reading request.form request.command (remaining old) ending
  pub input : LeavesInput request.command remaining failures old ending new

-- The text was written and the status goes with it, or the writer failed after a beginning of the text.
abbrev pub Prints : {W : Type 0} → (W → Option (List ℕ)) → (W → ℕ) → W → Status × List ℕ → ℕ → W → Type 0
Prints contents failures old what status new =
    (TakesAll (contents old) what.1 (contents new) (failures old) (failures new) × (status ≡ status_code what.0))
    ⊎ (TakesBeginning (contents old) what.1 (contents new) (failures old) (failures new) × (status ≡ 3))

-- what is printed where a word of the program's isn't UTF-8
abbrev pub printed_of_no_utf8 : Status × List ℕ
printed_of_no_utf8 = (CommandLine, codes "error: invalid UTF-8 was detected in one or more arguments\n")

-- A run of the program: there is something that it ends with, and this is printed, or that memory ran out for its text.
-- It speaks of its words, before it reads any input, or answers what they ask for.
pub record IsRunOfProgram {R W : Type 0} (words : List Text)
    (remaining : R → Option (List ℕ)) (input_failures : R → ℕ) (input input_after : R)
    (contents : W → Option (List ℕ)) (out_failures : W → ℕ) (out out_after : W)
    (status : ℕ) : Type 0 where
  pub ending : Result Reply Fault
  pub ends : (SpeaksOfWords words ending × (input_after ≡ input))
      ⊎ IsAnswered words remaining input_failures input ending input_after
  pub prints : Prints contents out_failures out (printed ending) status out_after
      ⊎ Prints contents out_failures out (printed (Err faults.CommandLine)) status out_after
