-- Requests on all of standard input.
use Rattle.scf_insn.specs.declared.input.InputFault.{InputFault}
use Rattle.scf_insn.specs.declared.architecture.Architecture.{Architecture}
use Rattle.scf_insn.specs.declared.record.CallRecord.{CallRecord}
use Rattle.scf_profile.specs.declared.reading.Reading.{Reading}
use Rattle.scf_request.specs.declared.bundle.BundleForm.{BundleForm}
use Rattle.scf_request.specs.declared.request.Command.{Command}
use Rattle.scf_request.specs.declared.request.Command.TheVariants as commands
use Rattle.scf_request.specs.declared.request.Detail.TheVariants as details
use Rattle.scf_request.specs.declared.request.Scopes.{Scopes}
use Rattle.scf_request.specs.declared.request.Scopes.TheVariants.{AtOnce, EachCall}
use Rattle.scf_tool.proofs.Common.{Bool, Err, Fault, HasEnded, List, Ok, Option, ReadsUnder, Reply, Result, false, inl, inr, max_input_len, refl, subst, true, ◌≡◌, ◌≢◌, ℕ}
use Rattle.scf_tool.specs.Commands.{EndsOnBundle, EndsOnBytes, GoesOverNone, HasNoInputs, IsRefused, IsTrueOf, RepliesTo, shape_of}
use Rattle.scf_request.specs.Requests.{scopes_of}
use Rattle.scf_tool.specs.Inputs.{Inputs}
use Rattle.scf_tool.specs.Statuses.{LeavesInput, LeavesWhole}
use Rattle.scf_tool.specs.declared.fault.Fault.TheVariants as faults
use Rattle.scf_tool.specs.declared.sides.SidesInput.{SidesInput}
use Rattle.scf_tool.specs.internal.Bytes.{TakesWhole}

-- what isn't of one filter takes all of the input
pub takes_whole : (command : Command) → command ≢ commands.Check → command ≢ commands.List
    → ((call : CallRecord) (has_path : Bool) → command ≢ commands.Run call has_path) → TakesWhole command
takes_whole commands.Check check list run = absurd (check refl)
takes_whole commands.List check list run = absurd (list refl)
takes_whole (commands.Run call has_path) check list run = absurd (run call has_path refl)
takes_whole command check list run = tt

module _ (reading : Reading) (form : BundleForm) where
  -- the input isn't read
  pub not_read : (command : Command) (input : Option (List ℕ)) (fault : InputFault)
      → TakesWhole command → ReadsUnder max_input_len input (Err fault)
      → IsTrueOf reading form command input (Err (faults.Input fault))
  not_read commands.Check input fault whole read = absurd whole
  not_read commands.List input fault whole read = absurd whole
  not_read (commands.Run call has_path) input fault whole read = absurd whole
  not_read command input fault whole read = inl (fault, refl, read)

  -- the end is true of the input that the bytes are read of
  pub true_of_input : (command : Command) (bytes : List ℕ) (ending : Result Reply Fault) (input : Option (List ℕ))
      → TakesWhole command → ReadsUnder max_input_len input (Ok bytes) → EndsOnBytes reading form command bytes ending
      → IsTrueOf reading form command input ending
  true_of_input commands.Check bytes ending input whole read ends = absurd whole
  true_of_input commands.List bytes ending input whole read ends = absurd whole
  true_of_input (commands.Run call has_path) bytes ending input whole read ends = absurd whole
  true_of_input command bytes ending input whole read ends = inr (bytes, read, ends)

-- ---- no command has a fault of the input

not_none : (of_each : Bool) (over : Scopes) (tables : List (Architecture × List ℕ)) (fault : InputFault)
    → GoesOverNone of_each over tables (faults.Input fault) → ⊥
not_none of_each EachCall tables fault none = none
not_none true (AtOnce scope) tables fault none = none
not_none false (AtOnce scope) tables fault none = none

not_refused : (over : Scopes) (inputs : Inputs) (fault : InputFault)
    → IsRefused over inputs (faults.Input fault) → ⊥
not_refused over inputs fault (inl none) = not_none inputs.rules.of_each over inputs.tables fault none
not_refused over inputs fault (inr (inl memory)) = absurd (cc)
not_refused over inputs fault (inr (inr (goes, why, is, refused))) = absurd (cc)

not_replied : (command : Command) (sides : SidesInput) (fault : InputFault)
    → RepliesTo command sides (Err (faults.Input fault)) → ⊥
not_replied (commands.Answers comparison has_examples has_differences) sides fault replied = replied
not_replied (commands.Ask call) sides fault replied = replied
not_replied (commands.Compare comparison) sides fault replied = replied
not_replied (commands.Compile has_left_out) sides fault replied = replied
not_replied (commands.Decide call details.Paths) sides fault replied = replied
not_replied (commands.Decide call details.Answer) sides fault replied = replied
not_replied (commands.Decide call details.Instruction) sides fault replied = replied
not_replied command sides fault replied = replied

module _ (reading : Reading) (form : BundleForm) where
  none_of_bundle : (command : Command) (bytes : List ℕ) (fault : InputFault)
      → EndsOnBundle reading form command bytes (Err (faults.Input fault)) → ⊥
  none_of_bundle command bytes fault (inl (why, is, none)) =
      let same : why ≡ faults.Input fault = cc in
      subst (λ (f : Fault). HasNoInputs (shape_of form command) reading bytes f) same none
  none_of_bundle command bytes fault (inr (held, bundle, inputs, are, inl (why, is, refused))) =
      let same : why ≡ faults.Input fault = cc in
      not_refused (scopes_of command) inputs fault
      (subst (λ (f : Fault). IsRefused (scopes_of command) inputs f) same refused)
  none_of_bundle command bytes fault (inr (held, bundle, inputs, are, inr (goes, sides, read, replied))) =
      not_replied command sides fault replied

  none_of_bytes : (command : Command) (bytes : List ℕ) (fault : InputFault)
      → EndsOnBytes reading form command bytes (Err (faults.Input fault)) → ⊥
  none_of_bytes commands.Assemble bytes fault ends = ends
  none_of_bytes command bytes fault ends = none_of_bundle command bytes fault ends

  -- what isn't a text is a bundle
  pub on_bundle : (command : Command) (bytes : List ℕ) (ending : Result Reply Fault)
      → command ≢ commands.Assemble → EndsOnBundle reading form command bytes ending
      → EndsOnBytes reading form command bytes ending
  on_bundle commands.Assemble bytes ending other ends = absurd (other refl)
  on_bundle command bytes ending other ends = ends

module _ {R : Type 0} (remaining : R → Option (List ℕ)) (failures : R → ℕ) (old new : R) where
  -- the input has come to its end, since a fault is none of it
  pub left_whole : (reading : Reading) (form : BundleForm) (command : Command) (bytes : List ℕ)
      (ending : Result Reply Fault) → EndsOnBytes reading form command bytes ending
      → HasEnded remaining failures old new → LeavesWhole {T = Reply} remaining failures old ending new
  left_whole reading form command bytes (Ok reply) ends ended = ended
  left_whole reading form command bytes (Err (faults.Input fault)) ends ended =
      absurd (none_of_bytes reading form command bytes fault ends)
  left_whole reading form command bytes (Err fault) ends ended = ended

  -- so a command leaves it that reads all of it
  pub left_by : (command : Command) (ending : Result Reply Fault) → TakesWhole command
      → LeavesWhole {T = Reply} remaining failures old ending new
      → LeavesInput {T = Reply} command remaining failures old ending new
  left_by commands.Check ending whole left = absurd whole
  left_by commands.List ending whole left = absurd whole
  left_by (commands.Run call has_path) ending whole left = absurd whole
  left_by command ending whole left = left
