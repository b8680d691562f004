-- The labels and instructions of the statements that were read.
use Rattle.std.specs.Prelude.{◌≡◌, ◌≢◌, ℕ, ◌<◌, List, [], ◌∷◌, ◌++◌, map, Option, None, Result, Ok, Err}
use Rattle.std.specs.List.{All, AllPairs, IsDistinct, flat_map, enumerate_from}
use Rattle.std.specs.List.Sorted.{IsNonDecreasing, IsPermutation, IsSortedBy}
use Rattle.std.specs.Option.{option_map, option_or, option_to_list}
use Rattle.std.specs.Str.{bytes_eq}
use Rattle.scf_text.specs.declared.fault.TextFault.{TextFault}
use Rattle.scf_text.specs.declared.numbered_insn.NumberedInsn.{NumberedInsn}
use Rattle.scf_text.specs.ParsedInsns as parsed_insns
use Rattle.scf_text.specs.Faults.{IsFault, statements_fault}
use Rattle.scf_text.specs.Statements.{Statement, symbols_in, labels_from, parsed_insns_in, parsed_insns_of}
use Rattle.scf_text.specs.Statements.{statements_of}
use Rattle.scf_text.specs.Tokens.{before_comment}
use Rattle.scf_text.specs.internal.Labels.{Labels, index_of, labels_at, is_before, IsFirstRepeat, repeat_fault}
use Rattle.scf_text.specs.internal.Parts.{words_in, others_in, statements_in}
use Rattle.scf_text.specs.internal.Symbols.{name_at}
use Rattle.scf_text.specs.internal.Views.{parsed_view}

-- each of the names is new: no earlier label has it
abbrev pub AreNew : Labels → Labels → Type 0
AreNew earlier [] = Unit {0}
AreNew earlier (l ∷ ls) = (index_of earlier l.0 ≡ None) × AreNew (earlier ++ l ∷ []) ls

-- the name of a label with its index
abbrev pub label_at : ℕ → Option (List ℕ) → Labels
label_at at label = map (λ name. (name, at)) (option_to_list label)

-- where instructions begin
abbrev pub begins_of : List NumberedInsn → List ℕ
begins_of insns = map (λ d. d.start) insns

abbrev pub parsed_insns_view : List NumberedInsn → List (ℕ × parsed_insns.ParsedInsn)
parsed_insns_view insns = map (λ l. (l.line, parsed_view l.parsed)) insns

-- the statements of lines, the first of which has this number
abbrev pub statements_from : ℕ → List (List ℕ) → List Statement
statements_from n lines =
    flat_map (λ l. map (λ ts. record { line = l.0; tokens = ts }) (statements_in (before_comment l.1)))
    (enumerate_from n lines)

-- the statements of a part of a line, which end at each `;`
abbrev pub part_statements : ℕ → List ℕ → List Statement
part_statements line part =
    map (λ ts. record { line = line; tokens = ts }) (words_in part ∷ others_in part)

-- Some statement has a token.
abbrev pub HaveTokens : List Statement → Type 0
HaveTokens ss = flat_map (λ (s : Statement). s.tokens) ss ≢ []

-- Labels are stored by the offsets at which they begin, in any order, and so are instructions, in the order of the
-- text; all offsets are before this index. The first fault of the statements is the first repeat among the labels, or
-- else a later one.
pub record AreKept (text : List ℕ) (end : ℕ) (given : Labels) (all : List Statement) (later : Option TextFault)
    (begins stored : List ℕ) : Type 0 where
  pub labels : List ℕ
  pub moved : IsPermutation labels stored
  pub named : labels_at text begins labels ≡ given
  pub rising : AllPairs (λ a b. a < b) labels
  pub before : All (λ s. s < end) labels
  pub begun : All (λ b. b < end) begins
  pub following : IsNonDecreasing begins
  pub repeat : Option ℕ
  pub first : IsFirstRepeat text labels repeat
  pub fault : statements_fault [] all ≡ option_or (option_map (repeat_fault text) repeat) later

-- The statements before the remaining ones were read, up to this index: their labels and instructions are stored.
pub record IsLeft (text : List ℕ) (end : ℕ) (all remaining : List Statement) (stored : List ℕ)
    (insns : List NumberedInsn) : Type 0 where
  pub before : List Statement
  pub whole : all ≡ before ++ remaining
  pub parsed_insns : parsed_insns_view insns ≡ flat_map parsed_insns_in before
  pub labels : AreKept text end (labels_from 0 before) all (statements_fault before remaining) (begins_of insns) stored

-- Reading ended at a statement with this fault, or an allocation failed. The labels up to there are stored, and if none
-- of them is a repeat, the fault is the first.
pub record IsEnded (text : List ℕ) (all : List Statement) (stored : List ℕ) (e : TextFault) : Type 0 where
  pub end : ℕ
  pub given : Labels
  pub later : Option TextFault
  pub begins : List ℕ
  pub labels : AreKept text end given all later begins stored
  pub fault : IsFirstRepeat text stored None → IsFault e later
  pub some : HaveTokens all

-- The statements before the remaining ones were read, up to an index, or reading ended among them.
abbrev pub Leaves : {T : Type 0} → List ℕ → Result T TextFault → List Statement → List Statement → (T → ℕ) → List ℕ
    → List NumberedInsn → Type 0
Leaves text (Ok x) all remaining end stored insns = IsLeft text (end x) all remaining stored insns
Leaves text (Err e) all remaining end stored insns = IsEnded text all stored e

-- All statements were read, and none has a fault: the labels are sorted, no two have one name, and each stands for the
-- instruction index that the text gives it.
pub record IsRead (text labels : List ℕ) (parsed_insns : List NumberedInsn) : Type 0 where
  pub sorted : IsSortedBy (is_before text) labels
  pub distinct : IsDistinct bytes_eq (map (name_at text) labels)
  pub following : IsNonDecreasing (begins_of parsed_insns)
  pub faultless : statements_fault [] (statements_of text) ≡ None
  pub written : parsed_insns_view parsed_insns ≡ parsed_insns_of text
  pub symbols : index_of (labels_at text (begins_of parsed_insns) labels) ≡ symbols_in (statements_of text)
