-- The first fault of a text.
use Rattle.std.specs.Prelude.{◌≡◌, ℕ, ◌+◌, ◌-◌, ◌||◌, ◌^◌, not, Bool, List, [], ◌∷◌, ◌++◌, length, Option, Some, None}
use Rattle.std.specs.Prelude.{nat_le, nat_lt, if◌then◌else◌}
use Rattle.std.specs.Option.{is_some, option_and_then, option_map_or, option_or}
use Rattle.std.specs.List.{flat_map, list_any}
use Rattle.scf_insn.specs.Kernel.{bpf_maxinsns}
use Rattle.scf_text.specs.declared.fault.TextFault.{TextFault}
use Rattle.scf_text.specs.declared.fault.TextFault.TheVariants as fault
use Rattle.scf_text.specs.Characters.{is_line_end}
use Rattle.scf_text.specs.Encodings.{encodings}
use Rattle.scf_text.specs.ParsedInsns.{FieldValue, Number, Label, ParsedInsn, parsed_of, has_mnemonic, is_in_range}
use Rattle.scf_text.specs.Statements.{Statement, SymbolTable, symbols_in, statements_of, parsed_insns_in, parsed_insns_of}
use Rattle.scf_text.specs.Statements.{label_in, instruction_in}

-- The fault is the first one, or out of memory.
abbrev pub IsFault : TextFault → Option TextFault → Type 0
IsFault fault.Memory first = Unit {0}
IsFault e first = first ≡ Some e

-- The first byte that isn't ASCII. The text begins in this line.
abbrev pub ascii_fault : ℕ → List ℕ → Option TextFault
ascii_fault line [] = None
ascii_fault line (b ∷ bs) =
    if nat_lt b 128 then ascii_fault (if is_line_end b then line + 1 else line) bs else Some (fault.NotAscii line)

-- the label has an index already
abbrev pub label_fault : SymbolTable → ℕ → Option (List ℕ) → Option TextFault
label_fault symbols line = option_and_then (λ name. if is_some (symbols name) then Some (fault.Label line) else None)

-- the tokens have no form, a number doesn't fit, or the most instructions stand before this one
abbrev pub operands_fault : ℕ → ℕ → Option ParsedInsn → Option TextFault
operands_fault at line None = Some (fault.Operand line)
operands_fault at line (Some d) =
    if not (is_in_range d) then Some (fault.NumberRange line)
    else if nat_le bpf_maxinsns at then Some (fault.TooLong line) else None

abbrev pub instruction_fault : ℕ → ℕ → List (List ℕ) → Option TextFault
instruction_fault at line [] = None
instruction_fault at line (t ∷ ts) =
    if list_any (has_mnemonic t) encodings then operands_fault at line (parsed_of t ts) else Some (fault.Mnemonic line)

-- the first fault of statements behind others: of the label of the first, of its instruction, or of a later one
abbrev pub statements_fault : List Statement → List Statement → Option TextFault
statements_fault before [] = None
statements_fault before (s ∷ ss) =
    option_or (option_or (label_fault (symbols_in before) s.line (label_in s.tokens))
    (instruction_fault (length (flat_map parsed_insns_in before)) s.line (instruction_in s.tokens)))
    (statements_fault (before ++ s ∷ []) ss)

-- A name with no index, or an index that the field doesn't reach. Indices behind the jump alone are reached.
abbrev pub target_fault : SymbolTable → ℕ → ℕ → ℕ → FieldValue → Option TextFault
target_fault symbols at line limit (Number n) = None
target_fault symbols at line limit (Label name) =
    let is_far : ℕ → Bool = λ index. nat_lt index (at + 1) || nat_le limit (index - (at + 1)) in
    option_map_or (λ index. if is_far index then Some (fault.JumpTooFar line) else None) (symbols name)
    (Some (fault.Label line))

-- the targets of an instruction: of a conditional jump its JT and then its JF
abbrev pub insn_fault : SymbolTable → ℕ → ℕ → ParsedInsn → Option TextFault
insn_fault symbols at line d =
    option_or (target_fault symbols at line (2 ^ 8) d.jt)
    (option_or (target_fault symbols at line (2 ^ 8) d.jf) (target_fault symbols at line (2 ^ 32) d.k))

-- the targets of instructions with their lines, the first at this index
abbrev pub targets_fault : SymbolTable → ℕ → List (ℕ × ParsedInsn) → Option TextFault
targets_fault symbols at [] = None
targets_fault symbols at (d ∷ ds) = option_or (insn_fault symbols at d.0 d.1) (targets_fault symbols (at + 1) ds)

-- the first fault: a byte that isn't ASCII, then the first fault of a statement, then the first wrong target
unfoldable pub fault_of : List ℕ → Option TextFault
fault_of text =
    option_or (ascii_fault 1 text) (option_or (statements_fault [] (statements_of text))
    (targets_fault (symbols_in (statements_of text)) 0 (parsed_insns_of text)))
