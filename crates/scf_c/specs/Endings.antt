-- How a call of the library ends: its status, its fault as the numbers of scf.h, and what it hands out.
use Rattle.std.specs.Prelude.{◌≡◌, ◌≢◌, ◌==◌, ◌⊎◌, ◌++◌, ℕ, List, [], ◌∷◌, MatchOption, Option, drop}
use Rattle.std.specs.Prelude.{if◌then◌else◌, length, map, take}
use Rattle.scf_tool.specs.Faults.{Number, Row, memory}
use Rattle.scf_c.specs.declared.layout.Fault.{Fault}

-- ---- statuses

-- all is well
abbrev pub ok : ℕ
ok = 0

-- an input is refused
abbrev pub refused : ℕ
refused = 1

-- a number isn't one that the call takes
abbrev pub wrong_argument : ℕ
wrong_argument = 2

-- an allocation failed
abbrev pub no_memory : ℕ
no_memory = 3

-- ---- faults

-- the words behind a fault's numbers
abbrev pub unused_words : List ℕ
unused_words = 0 ∷ 0 ∷ 0 ∷ 0 ∷ []

abbrev pub no_fault : Fault
no_fault = record { source = 0; kind = 0; numbers = 0 ∷ 0 ∷ 0 ∷ []; reserved = unused_words }

-- the fault of a row
abbrev pub fault_of : Row → Fault
fault_of row = record {
  source = row.0.1;
  kind = row.1.1.1;
  numbers = map (λ (number : Number). number.1) row.1.2;
  reserved = unused_words;
}

-- the status that goes with a fault
abbrev pub status_of : Fault → ℕ
status_of fault = if fault.kind == memory.1 then no_memory else refused

-- ---- lists

-- A list is handed out: how long it is, and as much of its front as there is room for. The room behind it stays.
pub record IsHandedOut {T : Type 0} (items old new : List T) (needed : ℕ) : Type 0 where
  pub whole : needed ≡ length items
  pub front : new ≡ take (length old) items ++ drop (length items) old

-- Nothing is handed out.
pub record IsNothingHandedOut {T : Type 0} (old new : List T) (needed : ℕ) : Type 0 where
  pub none : needed ≡ 0
  pub same : new ≡ old

-- ---- calls

-- There is a reason of this sort, which the fault tells by its row, and the status goes with it.
pub record IsRefusal {F : Type 0} (row : F → Row) (is_reason : F → Type 0) (status : ℕ) (fault : Fault) : Type 0 where
  pub why : F
  pub reason : is_reason why
  pub of_why : fault ≡ fault_of (row why)
  pub status_is : status ≡ status_of fault

-- a value of this sort, or None where there is none
abbrev pub IsOneOrNone : {A : Type 0} → (A → Type 0) → Option A → Type 0
IsOneOrNone {A} IsAsked result = MatchOption result ((asked : A) → IsAsked asked → ⊥) IsAsked

-- A call ends with OK and no fault, where what it hands out is right; or it is refused, and hands out nothing.
pub record Ends (IsRight : Type 0) (IsRefused : ℕ → Fault → Type 0) (IsNothing : Type 0) (status : ℕ) (fault : Fault)
    : Type 0 where
  pub right : status ≡ ok → IsRight × (fault ≡ no_fault)
  pub by_fault : status ≢ ok → IsRefused status fault
  pub nothing : status ≢ ok → IsNothing

-- A call whose numbers ask for something ends so where they do. It ends with a wrong argument and no fault where they
-- ask for nothing, or for none of the records that there are.
pub record EndsAsked {A : Type 0} (IsAsked IsRight IsOverNone : A → Type 0) (IsRefused : A → ℕ → Fault → Type 0)
    (IsNothing : Type 0) (status : ℕ) (fault : Fault) : Type 0 where
  pub right : status ≡ ok → (asked : A) × IsAsked asked × IsRight asked × (fault ≡ no_fault)
  pub wrong : status ≡ wrong_argument
      → (((asked : A) → IsAsked asked → ⊥) ⊎ ((asked : A) × IsAsked asked × IsOverNone asked)) × (fault ≡ no_fault)
  pub by_fault : status ≢ ok → status ≢ wrong_argument → (asked : A) × IsAsked asked × IsRefused asked status fault
  pub nothing : status ≢ ok → IsNothing
