-- Results of which a view is taken.
use Rattle.std.specs.Prelude.{Result, Ok, Err}

-- a result with what it holds seen by view
abbrev pub result_map : {A B E : Type 0} → (A → B) → Result A E → Result B E
result_map view (Ok x) = Ok (view x)
result_map view (Err e) = Err e
