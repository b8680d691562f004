-- Readers and writers that count their failures, and what is written to one.
use Rattle.std.specs.Prelude.{◌≡◌, ℕ, ◌+◌, ◌-◌, ◌^◌, ◌<◌, ◌≤◌, ◌++◌, min, length, List, Option, Result, Ok, Err}
use Rattle.std.specs.Io.KnownBytes.{Appends, Consumes}

-- A reader or a writer failed once between two counts, of which the last value stays.
abbrev pub HasFailed : ℕ → ℕ → Type 0
HasFailed old new = new ≡ min (old + 1) (2 ^ 64 - 1)

-- These bytes were taken, and the writer didn't fail.
pub record TakesAll (old : Option (List ℕ)) (bytes : List ℕ) (new : Option (List ℕ))
    (failures failures_after : ℕ) : Type 0 where
  pub taken : Appends old new bytes
  pub quiet : failures_after ≡ failures

-- A beginning of these bytes was taken, and the writer failed once.
pub record TakesBeginning (old : Option (List ℕ)) (bytes : List ℕ) (new : Option (List ℕ))
    (failures failures_after : ℕ) : Type 0 where
  pub front : List ℕ
  pub rest : List ℕ
  pub whole : bytes ≡ front ++ rest
  pub taken : Appends old new front
  pub failed : HasFailed failures failures_after

-- Writing these bytes led a writer from old to new: all were taken, or it failed once, after a beginning of them.
abbrev pub Writes : {S T E : Type 0} → (S → Option (List ℕ)) → (S → ℕ) → S → List ℕ → Result T E → S → Type 0
Writes contents failures old bytes (Ok _) new =
    TakesAll (contents old) bytes (contents new) (failures old) (failures new)
Writes contents failures old bytes (Err _) new =
    TakesBeginning (contents old) bytes (contents new) (failures old) (failures new)

-- At most so many bytes were taken from a reader.
abbrev pub GivesAtMost : ℕ → Option (List ℕ) → Option (List ℕ) → Type 0
GivesAtMost limit old new = (bytes : List ℕ) × (length bytes ≤ limit) × Consumes old new bytes

-- At least one byte was taken from a reader.
abbrev pub GivesSome : Option (List ℕ) → Option (List ℕ) → Type 0
GivesSome old new = (bytes : List ℕ) × (0 < length bytes) × Consumes old new bytes
