-- Members of a JSON object, the numbers that they hold, and arrays item by item.
use Rattle.std.specs.Prelude.{ℕ, ℤ, List, [], ◌∷◌, ◌++◌, Option, Some, None, Result, Ok}
use Rattle.std.specs.Prelude.{if◌then◌else◌, is_some, option_and_then}
use Rattle.serde_json.specs.Data.{Data, Items, no_items, item}
use Rattle.serde_json.specs.Find.{get, as_null, as_number, as_integer, as_u64}
use Rattle.scf_profile.specs.Steps.{◌>>=◌}

-- a member; one that is null counts as absent
abbrev pub member : List ℕ → Data → Option Data
member name d = option_and_then (λ value. if is_some (as_null value) then None else Some value) (get name d)

-- a signed or unsigned number of 64 bits
abbrev pub whole_number : Data → Option ℤ
whole_number d = option_and_then as_integer (as_number d)

-- an unsigned number of 64 bits
abbrev pub unsigned_number : Data → Option ℕ
unsigned_number d = option_and_then as_u64 (as_number d)

-- What a test makes of each item of an array, in order. It is given what was made of the items before.
unfoldable pub each : {A E : Type 0} → (List A → Data → Result A E) → List A → Items → Result (List A) E
each test before no_items = Ok before
each test before (item d ds) = test before d >>= λ x. each test (before ++ x ∷ []) ds
