-- Which instructions a text spells.
use Rattle.std.specs.Prelude.{◌≡◌, ℕ, ◌+◌, ◌<◌, ◌≤◌, List, [], length, map, Some}
use Rattle.std.specs.List.{AllByRecursion, AllZip, IsDistinct, enumerate_from}
use Rattle.std.specs.Str.{bytes_eq}
use Rattle.scf_insn.specs.Insn.{IsInsn}
use Rattle.scf_insn.specs.Kernel.{bpf_maxinsns}
use Rattle.scf_insn.specs.declared.insn.Insn.{Insn}
use Rattle.scf_text.specs.ParsedInsns.{FieldValue, Number, Label, ParsedInsn}
use Rattle.scf_text.specs.Statements.{Statement, SymbolTable, symbols_in, statements_of, labels_from}
use Rattle.scf_text.specs.Statements.{instruction_in, parsed_insns_in, parsed_insns_of}

-- What is written says the number. A name says how far its index is behind the next instruction.
abbrev pub Says : SymbolTable → ℕ → FieldValue → ℕ → Type 0
Says symbols at (Number n) value = value ≡ n
Says symbols at (Label name) value = symbols name ≡ Some (at + 1 + value)

-- what is written at this index says the instruction
pub record SaysInsn (symbols : SymbolTable) (at : ℕ) (d : ParsedInsn) (i : Insn) : Type 0 where
  pub code : i.code ≡ d.code
  pub jt : Says symbols at d.jt i.jt
  pub jf : Says symbols at d.jf i.jf
  pub k : Says symbols at d.k i.k

-- These say the instructions in order, the first at this index.
abbrev pub SaysEach : SymbolTable → ℕ → List (ℕ × ParsedInsn) → List Insn → Type 0
SaysEach symbols at ds is = AllZip (λ d i. SaysInsn symbols d.0 d.1.1 i) (enumerate_from at ds) is

-- The text is ASCII and no name is given twice. What stands behind the labels of its statements are forms of
-- instructions, and they say the list, which has at most as many as a filter may have.
pub record Spells (text : List ℕ) (is : List Insn) : Type 0 where
  pub ascii : AllByRecursion (λ b. b < 128) text
  pub distinct : IsDistinct bytes_eq (map (λ (l : List ℕ × ℕ). l.0) (labels_from 0 (statements_of text)))
  pub few : length is ≤ bpf_maxinsns
  pub fields : AllByRecursion IsInsn is
  pub read : AllByRecursion (λ (s : Statement). parsed_insns_in s ≡ [] → instruction_in s.tokens ≡ [])
      (statements_of text)
  pub each : SaysEach (symbols_in (statements_of text)) 0 (parsed_insns_of text) is
