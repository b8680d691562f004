-- What a text states as a call table: a map from names to numbers, or the first fault of the first faulty line.
use Rattle.std.specs.Prelude.{◌≡◌, ℕ, ◌+◌, ◌<◌, Bool, not, ◌&&◌, ◌||◌, ◌==◌, List, [], ◌∷◌, length, slice_index, pos}
use Rattle.std.specs.Prelude.{Option, Some, None, ok_or, Result, Ok, Err, if◌then◌else◌, is_some, nat_lt, option_and_then, ◌⊎◌}
use Rattle.std.specs.Char.{is_ascii_alphanumeric, is_ascii_digit}
use Rattle.std.specs.List.{list_all, filter, slice_split}
use Rattle.std.specs.Ordering.{nat_cmp}
use Rattle.std.specs.Cmp.Lexicographic.{slice_cmp}
use Rattle.std.specs.FinMap.{FinMap, get, insert, empty}
use Rattle.std.specs.Str.Lines.{lines}
use Rattle.scf_insn.specs.Kernel.{x32_syscall_bit}
use Rattle.scf_insn.specs.Numbers.{numeral}
use Rattle.scf_profile.specs.declared.table_fault.TableFault.{TableFault}
use Rattle.scf_profile.specs.declared.table_fault.TableFault.TheVariants as faults
use Rattle.scf_profile.specs.Limits.{number_below}
use Rattle.scf_profile.specs.Steps.{◌>>=◌, refused_if}

-- the numbers of calls by their names
abbrev pub Names : Type 0
Names = FinMap (slice_cmp nat_cmp) ℕ

-- numbers of x86-64 calls, which are below those of x32
abbrev pub AreCallNumbers : Names → Type 0
AreCallNumbers names = (name : List ℕ) (number : ℕ) → get names name ≡ Some number → number < x32_syscall_bit

-- space or tab
abbrev pub is_separator : ℕ → Bool
is_separator byte = byte == 32 || byte == 9

-- the parts between blanks, but for empty ones
abbrev pub fields : List ℕ → List (List ℕ)
fields line = filter (λ part. nat_lt 0 (length part)) (slice_split is_separator line)

-- a letter, a digit or an underscore
abbrev pub is_in_name : ℕ → Bool
is_in_name byte = is_ascii_alphanumeric byte || byte == 95

-- such bytes, of which the first is no digit
abbrev pub is_call_name : List ℕ → Bool
is_call_name text = nat_lt 0 (length text) && not (is_ascii_digit (slice_index text 0)) && list_all is_in_name text

-- a name, and as the one other field the decimal digits of a number below those of x32 calls
unfoldable pub pair_of : ℕ → List ℕ → List (List ℕ) → Result (Option (List ℕ × ℕ)) TableFault
pair_of line name (digits ∷ []) = do
  _ ← refused_if (not (is_call_name name)) (faults.Name line)
  number ← ok_or (option_and_then (λ n. number_below x32_syscall_bit (pos n)) (numeral 10 digits)) (faults.Number line)
  Ok (Some (name, number))
pair_of line name others = Err (faults.Form line)

-- what a line with these fields states: nothing where it is blank or a comment (`#`), else a name and a number
abbrev pub entry_in : ℕ → List (List ℕ) → Result (Option (List ℕ × ℕ)) TableFault
entry_in line [] = Ok None
entry_in line (name ∷ others) = if slice_index name 0 == 35 then Ok None else pair_of line name others

-- the names so far and one more, which has to be new
abbrev pub with_entry : ℕ → Names → Option (List ℕ × ℕ) → Result Names TableFault
with_entry line names None = Ok names
with_entry line names (Some (name, number)) =
    if is_some (get names name) then Err (faults.Repeated line) else Ok (insert names name number)

-- the names so far and those of the lines from the one of this number on
unfoldable pub with_lines : ℕ → Names → List (List ℕ) → Result Names TableFault
with_lines line names [] = Ok names
with_lines line names (text ∷ texts) =
    entry_in line (fields text) >>= with_entry line names >>= λ more. with_lines (line + 1) more texts

-- The line has a name and a number.
pub record HasCall (text : List ℕ) : Type 0 where
  pub line : ℕ
  pub name : List ℕ
  pub number : ℕ
  pub states : entry_in line (fields text) ≡ Ok (Some (name, number))

-- The line is blank or a comment.
pub record IsPassedOver (text : List ℕ) : Type 0 where
  pub line : ℕ
  pub states : entry_in line (fields text) ≡ Ok None

-- the first line that is neither blank nor a comment has a name and a number
abbrev pub BeginWithCall : List (List ℕ) → Type 0
BeginWithCall [] = ⊥
BeginWithCall (text ∷ texts) = HasCall text ⊎ (IsPassedOver text × BeginWithCall texts)

-- Lines end at LF, which the last may lack; a CR before it is dropped. They count from 1.
abbrev pub table_of : List ℕ → Result Names TableFault
table_of text = with_lines 1 empty (lines text)
