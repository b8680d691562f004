-- The replies and faults of each command, by the bytes of standard input. These count where its reader tells them.
use Rattle.std.specs.Prelude.{◌≡◌, ◌≢◌, ◌↔◌, ◌⊎◌, ◌+◌, ◌<◌, ◌≤◌, ◌++◌, ℕ, Bool, true, false, List, [], ◌∷◌, length, map, All, Option, None, Some, Result, Ok, Err}
use Rattle.std.specs.List.{AllZip, flat_map}
use Rattle.scf_insn.specs.declared.encoding.ReadFault.{ReadFault}
use Rattle.scf_insn.specs.declared.input.InputFault.{InputFault}
use Rattle.scf_insn.specs.declared.insn.Insn.{Insn}
use Rattle.scf_insn.specs.Architectures.{architectures}
use Rattle.scf_insn.specs.declared.architecture.Architecture.{Architecture}
use Rattle.scf_insn.specs.Kernel.{bpf_maxinsns}
use Rattle.scf_insn.specs.Insn.{program_bytes}
use Rattle.scf_insn.specs.Words.{words_of}
use Rattle.scf_machine.specs.Machine.{IsRun, RunAnswers}
use Rattle.scf_machine.specs.Path.{IsPathOf}
use Rattle.scf_machine.specs.Precedence.{IsDecidedBy, StackAnswers}
use Rattle.scf_machine.specs.declared.stack.Decision.{Decision}
use Rattle.scf_text.specs.Faults.{IsFault, fault_of}
use Rattle.scf_text.specs.Listing.{text_of}
use Rattle.scf_text.specs.Spelling as spelling
use Rattle.scf_profile.specs.declared.loaded.LoadedProfiles.{LoadedProfiles}
use Rattle.scf_profile.specs.declared.table_fault.TableFault.TheVariants as tables
use Rattle.scf_profile.specs.Loading.{RefusesEachAs}
use Rattle.scf_profile.specs.Profile.{Profile as StatedProfile}
use Rattle.scf_profile.specs.ProfileAnswers.{ProfilesAnswer}
use Rattle.scf_profile.specs.Reasons.{IsReasonAmong}
use Rattle.scf_profile.specs.SameAnswers.{SameAnswersAsEach}
use Rattle.scf_profile.specs.StatedProfile.{Tables}
use Rattle.scf_profile.specs.Table.{table_of}
use Rattle.scf_compile.specs.declared.fault.CompileFault.TheVariants as compiles
use Rattle.scf_compile.specs.SizeBound.{size_bound_of_each}
use Rattle.scf_tool.specs.declared.fault.Fault.{Fault}
use Rattle.scf_tool.specs.declared.fault.Fault.TheVariants as faults
use Rattle.scf_tool.specs.declared.findings.Findings.{Findings}
use Rattle.scf_tool.specs.declared.inputs.Shape.{Shape}
use Rattle.scf_tool.specs.declared.inputs.Takes.{Takes}
use Rattle.scf_tool.specs.declared.inputs.Takes.TheVariants as takes
use Rattle.scf_tool.specs.declared.left_out.LeftOut.{LeftOut}
use Rattle.scf_profile.specs.declared.reading.Reading.{Reading}
use Rattle.scf_tool.specs.declared.reply.Reply.{Reply}
use Rattle.scf_tool.specs.declared.reply.Reply.TheVariants.{Accepted, Ran, Decided, DecidedBy, Asked, Bytes, Compared}
use Rattle.scf_tool.specs.declared.sides.SideInput.{SideInput}
use Rattle.scf_tool.specs.declared.sides.SideInput.TheVariants.{Stack, Profiles}
use Rattle.scf_tool.specs.declared.sides.SidesInput.{SidesInput}
use Rattle.scf_tool.specs.ArchitectureScopes.{HasRecordAmong, NameNoCall}
use Rattle.scf_tool.specs.Explorations.{ListsAnswers}
use Rattle.scf_request.specs.declared.bundle.BundleFault.TheVariants as bundles
use Rattle.scf_request.specs.declared.request.Command.{Command}
use Rattle.scf_request.specs.declared.request.Command.TheVariants as commands
use Rattle.scf_request.specs.declared.request.Detail.TheVariants as details
use Rattle.scf_request.specs.declared.request.Request.{Request}
use Rattle.scf_request.specs.declared.request_fault.RequestFault.TheVariants as requests
use Rattle.scf_request.specs.declared.request.Scopes.{Scopes}
use Rattle.scf_request.specs.declared.request.Scopes.TheVariants.{AtOnce, EachCall}
use Rattle.scf_tool.specs.declared.verify_fault.SideFault.{SideFault}
use Rattle.scf_tool.specs.declared.verify_fault.VerifyFault.{VerifyFault}
use Rattle.scf_tool.specs.declared.verify_fault.VerifyFault.TheVariants as verifies
use Rattle.scf_request.specs.Bundle.{AreNoParts, Held, IsBundle, kinds_of}
use Rattle.scf_request.specs.Contents.{texts_for}
use Rattle.scf_request.specs.declared.bundle.BundleForm.{BundleForm}
use Rattle.scf_request.specs.declared.bundle.BundleForm.TheVariants as forms
use Rattle.scf_request.specs.Interpretations.{Interpretation, LoadsEachBy, stubs_of}
use Rattle.scf_request.specs.Requests.{scopes_of}
pub use Rattle.scf_tool.specs.FilterStacks.{NoReadFailed}
use Rattle.scf_tool.specs.Inputs.{AreRead, AreRefused, Inputs, SideBytes, SpellsTable, behavior_of_input, left_out_of_each, left_out_of_input, named_of}
use Rattle.scf_tool.specs.Inputs.SideBytes.{OfFilters, OfProfile}
use Rattle.scf_tool.specs.JointFindings.{AreFindings}
use Rattle.scf_tool.specs.Lines.{decision_text, traced_text}
use Rattle.scf_tool.specs.Reports.{finding_status, left_out_front, report_text}
use Rattle.scf_tool.specs.Verifying.{IsAcceptedFilter, IsNoFilter, ReadsFilter, ReadsUnder}

-- ---- standard input

-- what a command takes of standard input: 16 MiB
abbrev pub max_input_len : ℕ
max_input_len = 16777216

-- ---- one filter

-- What the commands on one filter end with. Of an accepted one `check` says the count of its instructions; `run` its
-- answer to the call and the length of its run; `run --path` also the indices of the instructions on the path. Or it
-- isn't accepted. `dis` ends with the listing of the instructions whose bytes the input is, accepted or not.
abbrev pub EndsOnFilter : Command → Option (List ℕ) → Result Reply Fault → Type 0
EndsOnFilter commands.Check input (Ok (Accepted count)) =
    (insns : List Insn) × IsAcceptedFilter input insns × (count ≡ length insns)
EndsOnFilter (commands.Run call false) input (Ok (Ran ran)) =
    (insns : List Insn) × IsAcceptedFilter input insns × IsRun insns (words_of call) ran.answer.0 ran.steps
EndsOnFilter (commands.Run call true) input (Ok (Bytes bytes)) =
    (insns : List Insn) × IsAcceptedFilter input insns × (answer : ℕ) × (indices : List ℕ)
    × IsPathOf insns (words_of call) answer indices × (bytes.items ≡ traced_text answer indices)
EndsOnFilter commands.List input (Ok (Bytes bytes)) =
    (insns : List Insn) × ReadsFilter input (Ok insns) × (bytes.items ≡ text_of insns)
EndsOnFilter commands.List input (Err (faults.Sides fault)) = (why : ReadFault)
    × (fault ≡ record { beside = false; why = verifies.FilterRead why }) × ReadsFilter input (Err why)
EndsOnFilter command input (Err (faults.Sides fault)) = (fault.beside ≡ false) × IsNoFilter input fault.why
EndsOnFilter command input ending = ⊥

-- ---- a text

-- `asm`: the bytes of the instructions that the text spells
abbrev pub Assembles : List ℕ → Result Reply Fault → Type 0
Assembles text (Ok (Bytes bytes)) =
    (insns : List Insn) × spelling.Spells text insns × (bytes.items ≡ program_bytes insns)
Assembles text (Err (faults.Text fault)) = IsFault fault (fault_of text)
Assembles text ending = ⊥

-- ---- the parts of a bundle

-- With a profile there are one or more tables; just one where it is for x86-64 alone, and call by call.
abbrev pub IsTableCount : BundleForm → Scopes → ℕ → Type 0
IsTableCount forms.Architectures (AtOnce scope) count = 1 ≤ count
IsTableCount form over count = count ≡ 1

-- at most one table of an architecture, and no stub without it
abbrev pub ArePartsOfOne : List (Architecture × List ℕ) → List (Architecture × List ℕ) → Architecture → Type 0
ArePartsOfOne tables stubs architecture =
    (length (texts_for architecture tables) ≤ 1)
    × (length (texts_for architecture stubs) ≤ length (texts_for architecture tables))

-- tables with a profile, each with a part for its stub or without one; else none
abbrev pub HasTables : List (List ℕ) → BundleForm → Scopes → Held → Type 0
HasTables [] form over held = (held.tables ≡ []) × (held.stubs ≡ []) × (held.counts ≡ [])
HasTables (profile ∷ profiles) form over held =
    IsTableCount form over (length held.tables) × All (ArePartsOfOne held.tables held.stubs) architectures

-- The tables that a command takes. Of filters beside others: no input at all isn't two empty stacks, and call by call
-- there is one table.
abbrev pub TakesTables : BundleForm → Scopes → Held → Type 0
TakesTables (forms.Beside has_table) (AtOnce scope) held = 1 ≤ length held.filters + length held.beside
TakesTables (forms.Beside has_table) EachCall held = length held.tables ≡ 1
TakesTables form over held = HasTables held.profiles form over held

-- the sides that filters, profiles and profiles beside the first are, if a command takes them
abbrev pub sides_among : Takes → List (List ℕ) → List (List ℕ) → List (List ℕ) → Option (SideBytes × SideBytes)
sides_among takes.Filters filters [] [] = Some (OfFilters filters, OfFilters [])
sides_among takes.Either filters [] [] = Some (OfFilters filters, OfFilters [])
sides_among takes.Either [] (profile ∷ []) [] = Some (OfProfile profile, OfFilters [])
sides_among takes.Profile [] (profile ∷ []) [] = Some (OfProfile profile, OfFilters [])
sides_among takes.Sides (oldest ∷ newer) (profile ∷ []) [] = Some (OfFilters (oldest ∷ newer), OfProfile profile)
sides_among takes.Sides [] (profile ∷ []) (beside ∷ []) = Some (OfProfile profile, OfProfile beside)
sides_among takes filters profiles beside = None

-- those of a bundle of a form
abbrev pub sides_of : BundleForm → Takes → Held → Option (SideBytes × SideBytes)
sides_of (forms.Beside has_table) takes held = Some (OfFilters held.filters, OfFilters held.beside)
sides_of form takes held = sides_among takes held.filters held.profiles held.beside_profiles

-- What a command takes of a bundle: two sides and tables, each of the stubs' parts has the number of one, and those of
-- counts have counts by name, written as a table is. The reading and the stubs are how a profile is read, for each
-- architecture if the form has tables of several. The texts of two sides are limited.
pub record AreInputs (shape : Shape) (reading : Reading) (held : Held) (inputs : Inputs) : Type 0 where
  pub are_sides : sides_of shape.form shape.takes held ≡ Some (inputs.left, inputs.right)
  pub takes_tables : TakesTables shape.form shape.over held
  pub are_stubs : length (stubs_of held.stubs) ≡ length held.stubs
  pub are_counts : (counts : Tables) × AllZip SpellsTable held.counts counts
  pub tables : inputs.tables ≡ held.tables
  pub by : inputs.rules.by ≡ record { reading = reading; stubs = stubs_of held.stubs }
  pub of_each : (inputs.rules.of_each ≡ true) ↔ (shape.form ≡ forms.Architectures)
  pub is_limited : (inputs.rules.is_limited ≡ true) ↔ (shape.takes ≡ takes.Sides)

-- why bytes have no inputs for a command: they are no bundle, or their parts are others
abbrev pub HasNoInputs : Shape → Reading → List ℕ → Fault → Type 0
HasNoInputs shape reading bytes (faults.Bundle fault) = AreNoParts (kinds_of shape.form) bytes fault
HasNoInputs shape reading bytes faults.Parts =
    (held : Held) × IsBundle shape.form bytes held × ((inputs : Inputs) → AreInputs shape reading held inputs → ⊥)
HasNoInputs shape reading bytes fault = ⊥

-- ---- the records

-- Under the tables of a command its scope has a record: call by call the only table names a call. Other scopes than
-- those of architectures have one whatever the tables are.
abbrev pub GoesOver : Bool → Scopes → List (Architecture × List ℕ) → Type 0
GoesOver of_each EachCall tables = NameNoCall tables → ⊥
GoesOver true (AtOnce scope) tables = HasRecordAmong tables scope
GoesOver false (AtOnce scope) tables = Unit {0}

-- it has none
abbrev pub GoesOverNone : Bool → Scopes → List (Architecture × List ℕ) → Fault → Type 0
GoesOverNone of_each EachCall tables faults.Calls = NameNoCall tables
GoesOverNone true (AtOnce scope) tables (faults.Request requests.Range) = HasRecordAmong tables scope → ⊥
GoesOverNone of_each over tables fault = ⊥

-- why a command doesn't look at its sides: it goes over no record, or memory runs out, or they are refused
abbrev pub IsRefused : Scopes → Inputs → Fault → Type 0
IsRefused over inputs fault = GoesOverNone inputs.rules.of_each over inputs.tables fault
    ⊎ ((fault ≡ faults.Bundle bundles.Memory)
    ⊎ (GoesOver inputs.rules.of_each over inputs.tables
    × (of_sides : SideFault) × (fault ≡ faults.Sides of_sides) × AreRefused inputs of_sides.beside of_sides.why))

-- ---- the replies

-- the bytes of an accepted filter that answers every call record as the profiles do
abbrev pub IsFilterOfEach : List StatedProfile → List ℕ → Type 0
IsFilterOfEach profiles bytes =
    (insns : List Insn) × IsAcceptedFilter (Some bytes) insns × SameAnswersAsEach (RunAnswers insns) profiles

-- What a command's reply says of its sides, of which one is on the left. Of `answers`: the regions that are listed. Of
-- `ask`: the answer of a profile to the call, or of that of its architecture, and why. Of `compare`: findings that are
-- true of both sides, compared as is asked, and their report with its status. Of `compile`: the filter of the profiles,
-- and in front of it what is left out of them, if it is asked for. Of `decide`: the answer of a stack to the call; with
-- `--at` also the instruction that gives it; with `--path` also each filter's run with the instructions on its path.
abbrev pub IsReplyTo : Command → SideInput → SidesInput → Reply → Type 0
IsReplyTo (commands.Answers comparison has_examples has_differences) left sides reply =
    ListsAnswers comparison has_examples has_differences sides reply
IsReplyTo (commands.Ask call) (Profiles loaded) sides (Asked answer reason) =
    ProfilesAnswer loaded.profiles call answer.0 × IsReasonAmong loaded.profiles call reason
IsReplyTo (commands.Compare comparison) left sides (Compared text status) = (findings : Findings)
    × AreFindings comparison comparison.scopes sides.of_each (behavior_of_input left) sides.right
    (map named_of sides.tables.items) findings
    × (text.items ≡ report_text comparison.relation (record {
      findings = findings;
      left_out_of_left = left_out_of_input left;
      left_out = left_out_of_input sides.right;
    }))
    × (status ≡ finding_status findings.joint)
IsReplyTo (commands.Compile has_left_out) (Profiles loaded) sides (Bytes bytes) = (filter : List ℕ)
    × IsFilterOfEach loaded.profiles filter
    × (bytes.items ≡ left_out_front has_left_out (left_out_of_each loaded) ++ filter)
IsReplyTo (commands.Decide call details.Answer) (Stack stack) sides (Decided answer) =
    StackAnswers stack (words_of call) answer.0
IsReplyTo (commands.Decide call details.Instruction) (Stack stack) sides (DecidedBy decision) =
    IsDecidedBy stack (words_of call) decision.by decision.answer.0
IsReplyTo (commands.Decide call details.Paths) (Stack stack) sides (Bytes bytes) =
    (decision : Decision) × IsDecidedBy stack (words_of call) decision.by decision.answer.0
    × (runs : List (ℕ × List ℕ)) × AllZip (λ filter run. IsPathOf filter (words_of call) run.0 run.1) stack runs
    × (bytes.items ≡ decision_text decision.by decision.answer.0 ++ flat_map (λ run. traced_text run.0 run.1) runs)
IsReplyTo command left sides reply = ⊥

-- What a command ends with on its sides: a reply that is true of them; or none would be; or their filter would be too
-- large; or memory runs out for the reply, for which `ask`, and `decide` without paths, need none.
abbrev pub RepliesTo : Command → SidesInput → Result Reply Fault → Type 0
RepliesTo command sides (Ok reply) = IsReplyTo command sides.left sides reply
RepliesTo command sides (Err faults.Parts) = (reply : Reply) → IsReplyTo command sides.left sides reply → ⊥
RepliesTo (commands.Compile has_left_out) sides (Err (faults.Compile compiles.TooLarge)) = (loaded : LoadedProfiles)
    × (sides.left ≡ Profiles loaded) × (bpf_maxinsns < size_bound_of_each loaded.profiles)
RepliesTo (commands.Compile has_left_out) sides (Err (faults.Compile compiles.Memory)) = Unit {0}
RepliesTo (commands.Answers comparison has_examples has_differences) sides (Err faults.Answers) = Unit {0}
RepliesTo (commands.Decide call details.Paths) sides (Err faults.Answers) = Unit {0}
RepliesTo (commands.Compare comparison) sides (Err (faults.Sides fault)) =
    fault ≡ record { beside = false; why = verifies.Memory }
RepliesTo command sides (Err fault) = ⊥

-- ---- all commands

-- the sides that a command takes from a bundle of a form
abbrev pub takes_of : BundleForm → Command → Takes
takes_of form (commands.Answers comparison has_examples true) = takes.Sides
takes_of forms.Architectures (commands.Answers comparison has_examples false) = takes.Profile
takes_of form (commands.Answers comparison has_examples false) = takes.Either
takes_of form (commands.Ask call) = takes.Profile
takes_of form (commands.Compare comparison) = takes.Sides
takes_of form (commands.Compile has_left_out) = takes.Profile
takes_of form command = takes.Filters

-- the shape of what it takes
abbrev pub shape_of : BundleForm → Command → Shape
shape_of form command = record { form = form; takes = takes_of form command; over = scopes_of command }

-- What a command on a bundle ends with: it has no inputs, or they are refused, or this is replied to them.
abbrev pub EndsOnBundle : Reading → BundleForm → Command → List ℕ → Result Reply Fault → Type 0
EndsOnBundle reading form command bytes ending =
    ((fault : Fault) × (ending ≡ Err fault) × HasNoInputs (shape_of form command) reading bytes fault)
    ⊎ ((held : Held) × IsBundle form bytes held
    × (inputs : Inputs) × AreInputs (shape_of form command) reading held inputs
    × (((fault : Fault) × (ending ≡ Err fault) × IsRefused (scopes_of command) inputs fault)
    ⊎ (GoesOver inputs.rules.of_each (scopes_of command) inputs.tables
    × (sides : SidesInput) × AreRead inputs sides × RepliesTo command sides ending)))

-- by whether all of the input is a text or a bundle
abbrev pub EndsOnBytes : Reading → BundleForm → Command → List ℕ → Result Reply Fault → Type 0
EndsOnBytes reading form commands.Assemble bytes = Assembles bytes
EndsOnBytes reading form command bytes = EndsOnBundle reading form command bytes

-- what a command ends with is true of the input
abbrev pub IsTrueOf : Reading → BundleForm → Command → Option (List ℕ) → Result Reply Fault → Type 0
IsTrueOf reading form commands.Check input = EndsOnFilter commands.Check input
IsTrueOf reading form commands.List input = EndsOnFilter commands.List input
IsTrueOf reading form (commands.Run call has_path) input = EndsOnFilter (commands.Run call has_path) input
IsTrueOf reading form command input = λ ending.
    ((fault : InputFault) × (ending ≡ Err (faults.Input fault)) × ReadsUnder max_input_len input (Err fault))
    ⊎ ((bytes : List ℕ) × ReadsUnder max_input_len input (Ok bytes) × EndsOnBytes reading form command bytes ending)

-- ---- tables and a profile of any length

-- The tables and the profile are read, and state this for each architecture.
pub record AreStated (by : Interpretation) (profile : List ℕ) (texts : List (Architecture × List ℕ))
    (loaded : LoadedProfiles) : Type 0 where
  pub tables : Tables
  pub are_tables : AllZip SpellsTable texts tables
  pub loads : LoadsEachBy by profile tables loaded

-- why a profile and tables state nothing: the first that is no table, or all are, and the profile is refused
abbrev pub CantLoadEach : Interpretation → List ℕ → List (Architecture × List ℕ) → VerifyFault → Type 0
CantLoadEach by profile texts (verifies.Table fault) = fault ≢ tables.Memory
    → (before : List (Architecture × List ℕ)) × (text : Architecture × List ℕ)
    × (behind : List (Architecture × List ℕ)) × (texts ≡ before ++ text ∷ behind)
    × (read : Tables) × AllZip SpellsTable before read × (table_of text.1 ≡ Err fault)
CantLoadEach by profile texts (verifies.Profile fault) =
    (read : Tables) × AllZip SpellsTable texts read × RefusesEachAs by.reading profile read fault
CantLoadEach by profile texts fault = ⊥
