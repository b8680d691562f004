-- What the functions of the assembler answer: what was asked for, or the fault that stands in its place.
use Rattle.std.specs.Prelude.{◌≡◌, ℕ, ◌<◌, Bool, true, false, List, ◌∷◌, ◌++◌, length, map, Option, Some, None}
use Rattle.std.specs.Prelude.{Result, Ok, Err, IsTrue, nat_eq, ◌⊎◌}
use Rattle.std.specs.List.{AllByRecursion, IsDistinct}
use Rattle.std.specs.List.Sorted.{IsPermutation}
use Rattle.std.specs.Option.{option_to_list}
use Rattle.std.specs.Borrow.{Bor}
use Rattle.std.specs.Global.{Vec}
use Rattle.scf_insn.specs.Insn.{IsInsn}
use Rattle.scf_insn.specs.declared.insn.Insn.{Insn}
use Rattle.scf_text.specs.declared.fault.TextFault.{TextFault}
use Rattle.scf_text.specs.declared.fault.TextFault.TheVariants as fault
use Rattle.scf_text.specs.declared.numbered_insn.NumberedInsn.{NumberedInsn}
use Rattle.scf_text.specs.declared.symbols.SymbolTable.{SymbolTable as Kept}
use Rattle.scf_text.specs.ParsedInsns as parsed_insns
use Rattle.scf_text.specs.Faults.{IsFault, insn_fault, instruction_fault, target_fault}
use Rattle.scf_text.specs.Spelling.{Says, SaysInsn, SaysEach}
use Rattle.scf_text.specs.Statements.{SymbolTable, symbols_in, statements_of, parsed_insns_of, parsed_insns_by}
use Rattle.scf_text.specs.internal.Labels.{index_of, labels_at, TellsRepeat}
use Rattle.scf_text.specs.internal.Parts.{others_in, statements_after}
use Rattle.scf_text.specs.internal.Symbols.{FollowsBehind}
use Rattle.scf_text.specs.internal.Reading.{parsed_insns_view, begins_of}

-- the number that is written, or the offset to the label, below the limit
abbrev pub TellsTarget : SymbolTable → ℕ → ℕ → ℕ → parsed_insns.FieldValue → Result ℕ TextFault → Type 0
TellsTarget symbols at line limit written (Ok value) =
    (target_fault symbols at line limit written ≡ None) × Says symbols at written value × (value < limit)
TellsTarget symbols at line limit written (Err e) = target_fault symbols at line limit written ≡ Some e

-- the instruction that is written at this index
abbrev pub TellsInsn : SymbolTable → ℕ → ℕ → parsed_insns.ParsedInsn → Result Insn TextFault → Type 0
TellsInsn symbols at line parsed (Ok insn) =
    (insn_fault symbols at line parsed ≡ None) × SaysInsn symbols at parsed insn × IsInsn insn
TellsInsn symbols at line parsed (Err e) = insn_fault symbols at line parsed ≡ Some e

-- the instructions that are written, the first at index 0, where this is no fault
abbrev pub TellsInsns : Option TextFault → SymbolTable → List (ℕ × parsed_insns.ParsedInsn)
    → Result (Vec Insn) TextFault → Type 0
TellsInsns first symbols written (Ok insns) =
    (first ≡ None) × SaysEach symbols 0 written insns.items × AllByRecursion IsInsn insns.items
TellsInsns first symbols written (Err e) = IsFault e first

-- the instructions that a text without this fault says
abbrev pub TellsText : Option TextFault → List ℕ → Result (Vec Insn) TextFault → Type 0
TellsText first text = TellsInsns first (symbols_in (statements_of text)) (parsed_insns_of text)

-- This draft is what a mnemonic and its operands say, in a line and behind as many instructions.
abbrev pub TellsDraft : {T : Type 0} → ℕ → ℕ → List ℕ → List (List ℕ) → parsed_insns.ParsedInsn → Result T TextFault
    → Type 0
TellsDraft at line mnemonic operands parsed (Ok _) =
    IsTrue (parsed_insns.is_in_range parsed) × (instruction_fault at line (mnemonic ∷ operands) ≡ None)
    × (parsed_insns.parsed_of mnemonic operands ≡ Some parsed)
TellsDraft at line mnemonic operands parsed (Err e) = instruction_fault at line (mnemonic ∷ operands) ≡ Some e

-- The label that begins at this index, if there is one, is kept with the others. Else memory was refused, or the first
-- repeat among them is told.
abbrev pub AddsLabel : {T : Type 0} → List ℕ → List ℕ → Option ℕ → Result T TextFault → List ℕ → Type 0
AddsLabel text old label (Ok _) new = IsPermutation (old ++ option_to_list label) new
AddsLabel {T} text old label (Err e) new =
    ((new ≡ old) × (e ≡ fault.Memory))
    ⊎ (IsPermutation (old ++ option_to_list label) new × (IsDistinct nat_eq new → TellsRepeat {T = T} text new (Err e)))

-- The instruction of these tokens, if there are any, stands behind the others and begins at this index.
abbrev pub AddsInstruction : {T : Type 0} → List NumberedInsn → ℕ → ℕ → List (List ℕ) → Result T TextFault
    → List NumberedInsn → Type 0
AddsInstruction old start line tokens (Ok _) new =
    (instruction_fault (length old) line tokens ≡ None)
    × (parsed_insns_view new ≡ parsed_insns_view old ++ parsed_insns_by line tokens)
    × (begins_of new ≡ begins_of old ++ map (λ _. start) (parsed_insns_by line tokens))
AddsInstruction old start line tokens (Err e) new = IsFault e (instruction_fault (length old) line tokens)

-- The instruction that a known mnemonic spells with the operands in the part behind it, or why they spell none.
abbrev pub Reads : ℕ → Bool → Option parsed_insns.ParsedInsn → List ℕ → parsed_insns.ParsedInsn
    → Result (Option (Bor (List ℕ))) TextFault → Type 0
Reads line is_known outcome part parsed (Ok after) =
    (is_known ≡ true) × (outcome ≡ Some parsed) × (others_in part ≡ statements_after after) × FollowsBehind part 0 after
Reads line is_known outcome part parsed (Err e) =
    ((is_known ≡ false) × (e ≡ fault.Mnemonic line))
    ⊎ ((is_known ≡ true) × (outcome ≡ None) × (e ≡ fault.Operand line))

-- the indices that labels stand for
abbrev pub indices_view : Kept → SymbolTable
indices_view table = index_of (labels_at table.text.now (begins_of table.parsed_insns.now) table.labels.now)
