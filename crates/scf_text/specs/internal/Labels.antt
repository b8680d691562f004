-- The labels of a text, kept by the indices where they begin.
use Rattle.std.specs.Prelude.{◌≡◌, ℕ, ◌<◌, ◌≤◌, List, map, min, Option, Some, None, Result, Ok, Err, nat_lt, Bool}
use Rattle.std.specs.declared.cmp.Ordering.{Ordering}
use Rattle.std.specs.Cmp.Lexicographic.{slice_cmp}
use Rattle.std.specs.List.{Contains, prefix_len}
use Rattle.std.specs.Map.{lookup}
use Rattle.std.specs.Ordering.{is_lt, nat_cmp, ordering_then}
use Rattle.std.specs.Str.{bytes_eq}
use Rattle.scf_text.specs.declared.fault.TextFault.{TextFault}
use Rattle.scf_text.specs.declared.fault.TextFault.TheVariants as fault
use Rattle.scf_text.specs.Statements.{SymbolTable}
use Rattle.scf_text.specs.internal.Symbols.{name_at, line_at}

-- names that stand for indices, each with its index
abbrev pub Labels : Type 0
Labels = List (List ℕ × ℕ)

-- the index that each name stands for, if it stands for one
abbrev pub index_of : Labels → SymbolTable
index_of labels = λ name. lookup (bytes_eq name) labels

-- The labels that begin at these indices, where instructions begin at those: a label stands for the number of the
-- instructions before it.
abbrev pub labels_at : List ℕ → List ℕ → List ℕ → Labels
labels_at text begins starts = map (λ s. (name_at text s, prefix_len (λ b. nat_lt b s) begins)) starts

-- by their names, and those of one name by where they begin
abbrev pub compared : List ℕ → ℕ → ℕ → Ordering
compared text a b = ordering_then (slice_cmp nat_cmp (name_at text a) (name_at text b)) (nat_cmp a b)

abbrev pub is_before : List ℕ → ℕ → ℕ → Bool
is_before text a b = is_lt (compared text a b)

-- The label has the name of an earlier one.
pub record IsRepeat (text starts : List ℕ) (b : ℕ) : Type 0 where
  pub given : Contains starts b
  pub earlier : ℕ
  pub given_before : Contains starts earlier
  pub before : earlier < b
  pub same : name_at text earlier ≡ name_at text b

-- the first of those, if there are any
abbrev pub IsFirstRepeat : List ℕ → List ℕ → Option ℕ → Type 0
IsFirstRepeat text starts None = (b : ℕ) → IsRepeat text starts b → ⊥
IsFirstRepeat text starts (Some r) = IsRepeat text starts r × ((b : ℕ) → IsRepeat text starts b → r ≤ b)

abbrev pub repeat_fault : List ℕ → ℕ → TextFault
repeat_fault text r = fault.Label (line_at text r)

-- this label, or the first so far if that begins before it
abbrev pub least : Option ℕ → ℕ → ℕ
least None s = s
least (Some r) s = min r s

-- There is no repeat, or the fault tells the first.
abbrev pub TellsRepeat : {T : Type 0} → List ℕ → List ℕ → Result T TextFault → Type 0
TellsRepeat text starts (Ok _) = IsFirstRepeat text starts None
TellsRepeat text starts (Err e) = (r : ℕ) × IsFirstRepeat text starts (Some r) × (e ≡ repeat_fault text r)
