-- The row of each fault: what is refused and why, each by its name in the printed line and its number in scf.h, the
-- numbers that say where, and the program's exit status. Numbers of scf.h never change; new kinds come behind them.
use Rattle.std.specs.Prelude.{ℕ, List, [], ◌∷◌, ◌++◌, ◌-◌, ◌^◌, codes, map, Option, Some, None, option_map, if◌then◌else◌}
use Rattle.std.specs.Borrow.{Bor}
use Rattle.std.specs.List.{flat_map}
use Rattle.std.specs.Fmt.{decimal}
use Rattle.scf_insn.specs.declared.input.InputFault.{InputFault}
use Rattle.scf_insn.specs.declared.input.InputFault.TheVariants as inputs
use Rattle.scf_insn.specs.declared.encoding.ReadFault.{ReadFault}
use Rattle.scf_insn.specs.declared.encoding.ReadFault.TheVariants as reads
use Rattle.scf_machine.specs.declared.checker.CheckFault.{CheckFault}
use Rattle.scf_machine.specs.declared.checker.CheckFault.TheVariants as checks
use Rattle.scf_machine.specs.declared.stack.PushFault.TheVariants as pushes
use Rattle.scf_text.specs.declared.fault.TextFault.{TextFault}
use Rattle.scf_text.specs.declared.fault.TextFault.TheVariants as texts
use Rattle.scf_profile.specs.declared.table_fault.TableFault.{TableFault}
use Rattle.scf_profile.specs.declared.table_fault.TableFault.TheVariants as tables
use Rattle.scf_profile.specs.declared.load_fault.LoadFault.{LoadFault}
use Rattle.scf_profile.specs.declared.load_fault.LoadFault.TheVariants as loads
use Rattle.scf_compile.specs.declared.fault.CompileFault.{CompileFault}
use Rattle.scf_compile.specs.declared.fault.CompileFault.TheVariants as compiles
use Rattle.scf_request.specs.declared.bundle.BundleFault.{BundleFault}
use Rattle.scf_request.specs.declared.bundle.BundleFault.TheVariants as bundles
use Rattle.scf_request.specs.declared.request_fault.RequestFault.TheVariants as requests
use Rattle.scf_tool.specs.declared.verify_fault.SideFault.{SideFault}
use Rattle.scf_tool.specs.declared.verify_fault.VerifyFault.{VerifyFault}
use Rattle.scf_tool.specs.declared.verify_fault.VerifyFault.TheVariants as verifies
use Rattle.scf_tool.specs.declared.status.Status.{Status}
use Rattle.scf_tool.specs.declared.status.Status.TheVariants.{Refused, CommandLine, Failed}
use Rattle.scf_tool.specs.declared.fault.Fault.{Fault}
use Rattle.scf_tool.specs.declared.fault.Fault.TheVariants as faults
use Rattle.scf_tool.specs.declared.fault_row.FaultRow.{FaultRow}

-- a name in the printed line, and its number in scf.h; 0 if only the program has it
abbrev pub Name : Type 0
Name = List ℕ × ℕ

-- one of a fault's numbers: its name in the line, which leaves out a number without one, and what libscf hands out
abbrev pub Number : Type 0
Number = Option (List ℕ) × ℕ

-- Why something is refused: the exit status, the kind's name, and the numbers that say where. What can't be read and
-- memory that is refused have status 3, what is refused has status 1, and what is wrong with the words status 2.
abbrev pub Kind : Type 0
Kind = Status × Name × List Number

-- what is refused, and why
abbrev pub Row : Type 0
Row = Name × Kind

-- ---- numbers

-- in place of a number that the kind hasn't
abbrev pub unused : Number
unused = (None, 0)

abbrev pub none : List Number
none = unused ∷ unused ∷ unused ∷ []

abbrev pub one : List ℕ → ℕ → List Number
one name value = (Some name, value) ∷ unused ∷ unused ∷ []

-- that of an entry of a profile, or outside of them the greatest number
abbrev pub in_entry : Option ℕ → List Number
in_entry (Some entry) = one (codes "entry") entry
in_entry None = (None, 2 ^ 64 - 1) ∷ unused ∷ unused ∷ []

-- ---- the names that stand in more than one row

abbrev pub memory : Name
memory = (codes "Memory", 1)

abbrev pub too_long : Name
too_long = (codes "TooLong", 4)

-- ---- the kinds of each fault

abbrev pub input_kind : InputFault → Kind
input_kind inputs.Read = (Failed, (codes "Read", 2), none)
input_kind inputs.TooLong = (Failed, too_long, none)
input_kind inputs.Memory = (Failed, memory, none)

abbrev pub bundle_kind : BundleFault → Kind
bundle_kind (bundles.Header offset) = (Failed, (codes "Header", 0), one (codes "offset") offset)
bundle_kind (bundles.Short offset) = (Failed, (codes "Short", 0), one (codes "offset") offset)
bundle_kind bundles.Memory = (Failed, memory, none)

abbrev pub read_kind : ReadFault → Kind
read_kind reads.Read = (Failed, (codes "Read", 2), none)
read_kind (reads.Truncated offset) = (Failed, (codes "Truncated", 3), one (codes "offset") offset)
read_kind reads.TooLong = (Failed, too_long, none)
read_kind reads.Memory = (Failed, memory, none)

abbrev pub check_kind : CheckFault → Kind
check_kind checks.Empty = (Refused, (codes "Empty", 5), none)
check_kind checks.TooLong = (Refused, too_long, none)
check_kind (checks.Code at) = (Refused, (codes "Code", 6), one (codes "at") at)
check_kind (checks.Load at) = (Refused, (codes "Load", 7), one (codes "at") at)
check_kind (checks.Scratch at) = (Refused, (codes "Scratch", 8), one (codes "at") at)
check_kind (checks.Divisor at) = (Refused, (codes "Divisor", 9), one (codes "at") at)
check_kind (checks.Shift at) = (Refused, (codes "Shift", 10), one (codes "at") at)
check_kind (checks.Jump at) = (Refused, (codes "Jump", 11), one (codes "at") at)
check_kind checks.LastNotReturn = (Refused, (codes "LastNotReturn", 12), none)
check_kind (checks.Unset at word) =
    (Refused, (codes "Unset", 13), (Some (codes "at"), at) ∷ (Some (codes "word"), word) ∷ unused ∷ [])
check_kind checks.Memory = (Failed, memory, none)

abbrev pub text_kind : TextFault → Kind
text_kind (texts.NotAscii line) = (Refused, (codes "NotAscii", 14), one (codes "line") line)
text_kind (texts.Mnemonic line) = (Refused, (codes "Mnemonic", 15), one (codes "line") line)
text_kind (texts.Operand line) = (Refused, (codes "Operand", 16), one (codes "line") line)
text_kind (texts.NumberRange line) = (Refused, (codes "NumberRange", 17), one (codes "line") line)
text_kind (texts.Label line) = (Refused, (codes "Label", 18), one (codes "line") line)
text_kind (texts.JumpTooFar line) = (Refused, (codes "JumpTooFar", 19), one (codes "line") line)
text_kind (texts.TooLong line) = (Refused, too_long, one (codes "line") line)
text_kind texts.Memory = (Failed, memory, none)

abbrev pub table_kind : TableFault → Kind
table_kind (tables.Form line) = (Refused, (codes "Form", 20), one (codes "line") line)
table_kind (tables.Name line) = (Refused, (codes "Name", 21), one (codes "line") line)
table_kind (tables.Number line) = (Refused, (codes "Number", 22), one (codes "line") line)
table_kind (tables.Repeated line) = (Refused, (codes "Repeated", 23), one (codes "line") line)
table_kind tables.Memory = (Failed, memory, none)

abbrev pub load_kind : LoadFault → Kind
load_kind loads.Json = (Refused, (codes "Json", 24), none)
load_kind (loads.Missing entry) = (Refused, (codes "Missing", 25), in_entry entry)
load_kind (loads.Kind entry) = (Refused, (codes "Kind", 26), in_entry entry)
load_kind (loads.Action entry) = (Refused, (codes "Action", 27), in_entry entry)
load_kind (loads.Operator entry) = (Refused, (codes "Operator", 28), in_entry entry)
load_kind (loads.EmptyNames entry) = (Refused, (codes "EmptyNames", 29), in_entry entry)
load_kind (loads.Index entry) = (Refused, (codes "Index", 30), in_entry entry)
load_kind (loads.RepeatedIndex entry) = (Refused, (codes "RepeatedIndex", 31), in_entry entry)
load_kind (loads.Errno entry) = (Refused, (codes "Errno", 32), in_entry entry)
load_kind (loads.ErrnoRange entry) = (Refused, (codes "ErrnoRange", 33), in_entry entry)
load_kind (loads.NoX8664 entry) = (Refused, (codes "NoX8664", 34), in_entry entry)
load_kind (loads.NotListed table) = (Refused, (codes "NotListed", 39), one (codes "table") table)
load_kind (loads.EngineForm entry) = (Refused, (codes "EngineForm", 35), in_entry entry)
load_kind loads.TooMany = (Refused, (codes "TooMany", 36), none)
load_kind (loads.Conflict number first second) = (
  Refused,
  (codes "Conflict", 37),
  (Some (codes "number"), number) ∷ (Some (codes "first"), first) ∷ (Some (codes "second"), second) ∷ [],
)
load_kind loads.Memory = (Failed, memory, none)

-- ---- the rows

abbrev pub text_row : TextFault → Row
text_row fault = ((codes "text", 3), text_kind fault)

abbrev pub compile_row : CompileFault → Row
compile_row compiles.TooLarge = ((codes "compile", 6), (Refused, (codes "TooLarge", 38), none))
compile_row compiles.Memory = ((codes "compile", 6), (Failed, memory, none))

abbrev pub verify_row : VerifyFault → Row
verify_row (verifies.FilterRead fault) = ((codes "filter", 1), read_kind fault)
verify_row (verifies.Check fault) = ((codes "filter", 1), check_kind fault)
verify_row (verifies.Stack (pushes.TooMany total)) =
    ((codes "stack", 7), (Refused, (codes "TooMany", 36), one (codes "total") total))
verify_row (verifies.Stack pushes.Memory) = ((codes "stack", 7), (Failed, memory, none))
verify_row (verifies.TableRead fault) = ((codes "table", 4), input_kind fault)
verify_row (verifies.Table fault) = ((codes "table", 4), table_kind fault)
verify_row (verifies.ProfileRead fault) = ((codes "profile", 5), input_kind fault)
verify_row (verifies.Profile fault) = ((codes "profile", 5), load_kind fault)
verify_row verifies.Memory = ((codes "compare", 8), (Failed, memory, none))

-- of two sides: those of the filters or the profile beside others are told apart
abbrev pub side_row : SideFault → Row
side_row fault = (if fault.beside then (codes "beside", 2) else (verify_row fault.why).0, (verify_row fault.why).1)

-- the name of an option stands in place of a kind
abbrev pub fault_row : Fault → Row
fault_row faults.CommandLine = ((codes "command", 0), (Failed, memory, none))
fault_row (faults.Request requests.NoCommand) = ((codes "command", 0), (CommandLine, (codes "NoCommand", 0), none))
fault_row (faults.Request (requests.Number fault)) = ((codes "number", 0), (CommandLine, (fault.name.now, 0), none))
fault_row (faults.Request requests.Flags) = ((codes "command", 0), (CommandLine, (codes "Flags", 0), none))
fault_row (faults.Request requests.Reading) = ((codes "command", 0), (CommandLine, (codes "Reading", 0), none))
fault_row (faults.Request requests.Range) = ((codes "command", 0), (CommandLine, (codes "Range", 0), none))
fault_row (faults.Input fault) = ((codes "input", 0), input_kind fault)
fault_row (faults.Bundle fault) = ((codes "bundle", 0), bundle_kind fault)
fault_row faults.Parts = ((codes "bundle", 0), (Failed, (codes "Parts", 0), none))
fault_row (faults.Text fault) = text_row fault
fault_row (faults.Compile fault) = compile_row fault
fault_row (faults.Sides fault) = side_row fault
fault_row faults.Answers = ((codes "answers", 0), (Failed, memory, none))
fault_row faults.Calls = ((codes "command", 0), (CommandLine, (codes "Calls", 0), none))

-- ---- the status and the line of a row

abbrev pub number_text : Number → List ℕ
number_text (None, _) = []
number_text (Some name, value) = codes " " ++ name ++ codes " " ++ decimal value

abbrev pub fault_line : Row → List ℕ
fault_line row =
    (codes "fault " ++ row.0.0 ++ codes " " ++ row.1.1.0) ++ flat_map number_text row.1.2 ++ codes "\n"

abbrev pub printed_fault : Fault → Status × List ℕ
printed_fault fault = ((fault_row fault).1.0, fault_line (fault_row fault))

-- ---- rows as the code keeps them

abbrev pub number_of : Option (Bor (List ℕ)) × ℕ → Number
number_of (name, value) = (option_map (λ text. text.now) name, value)

abbrev pub kind_of : Status × (Bor (List ℕ) × ℕ) × List (Option (Bor (List ℕ)) × ℕ) → Kind
kind_of (status, name, numbers) = (status, (name.0.now, name.1), map number_of numbers)

abbrev pub row_of : FaultRow → Row
row_of row = ((row.source.0.now, row.source.1), kind_of (row.status, row.kind, row.numbers))
