-- The statements of a text.
use Rattle.std.specs.Prelude.{ℕ, ◌+◌, ◌&&◌, List, [], ◌∷◌, ◌++◌, length, drop, map, Option, Some, None, codes}
use Rattle.std.specs.Prelude.{if◌then◌else◌}
use Rattle.std.specs.Option.{is_some, option_to_list, option_map}
use Rattle.std.specs.List.{slice_split, flat_map, enumerate_from}
use Rattle.std.specs.Map.{lookup}
use Rattle.std.specs.Str.{bytes_eq}
use Rattle.scf_text.specs.Tokens.{lines_of, words_of_line}
use Rattle.scf_text.specs.ParsedInsns.{ParsedInsn, parsed_of, is_name}

-- the tokens of a statement, and the number of its line
pub record Statement : Type 0 where
  pub line : ℕ
  pub tokens : List (List ℕ)

-- the statements of the lines, counted from 1: a line without its comment is cut at each `;`
abbrev pub statements_of : List ℕ → List Statement
statements_of text =
    flat_map (λ l. map (λ ts. record { line = l.0; tokens = ts })
    (slice_split (λ t. bytes_eq t (codes ";")) (words_of_line l.1))) (enumerate_from 1 (lines_of text))

-- a name and `:` in front
abbrev pub label_in : List (List ℕ) → Option (List ℕ)
label_in (t ∷ u ∷ ts) = if is_name t && bytes_eq u (codes ":") then Some t else None
label_in _ = None

-- the instruction behind the label, which may be missing
abbrev pub instruction_in : List (List ℕ) → List (List ℕ)
instruction_in ts = if is_some (label_in ts) then drop 2 ts else ts

-- what the instruction of a statement says, with the line
abbrev pub parsed_insns_by : ℕ → List (List ℕ) → List (ℕ × ParsedInsn)
parsed_insns_by line [] = []
parsed_insns_by line (t ∷ ts) = option_to_list (option_map (λ d. (line, d)) (parsed_of t ts))

abbrev pub parsed_insns_in : Statement → List (ℕ × ParsedInsn)
parsed_insns_in s = parsed_insns_by s.line (instruction_in s.tokens)

-- The labels of statements, the first of which stands at this index. Each names the index of the next instruction, or
-- the end where none follows.
abbrev pub labels_from : ℕ → List Statement → List (List ℕ × ℕ)
labels_from at [] = []
labels_from at (s ∷ ss) =
    map (λ name. (name, at)) (option_to_list (label_in s.tokens)) ++ labels_from (at + length (parsed_insns_in s)) ss

-- the index that each name stands for, if it stands for one
abbrev pub SymbolTable : Type 0
SymbolTable = List ℕ → Option ℕ

-- the indices of the names that statements give
abbrev pub symbols_in : List Statement → SymbolTable
symbols_in ss = λ name. lookup (bytes_eq name) (labels_from 0 ss)

abbrev pub parsed_insns_of : List ℕ → List (ℕ × ParsedInsn)
parsed_insns_of text = flat_map parsed_insns_in (statements_of text)
