-- Tests one after another, up to the first that fails.
use Rattle.std.specs.Prelude.{◌≡◌, ◌≢◌, Bool, Result, Ok, Err, ⊤, if◌then◌else◌}

infixl 10 ◌>>=◌
abbrev pub ◌>>=◌ : {A B E : Type 0} → Result A E → (A → Result B E) → Result B E
(Ok x) >>= f = f x
(Err e) >>= f = Err e

-- the fault where the test is true
abbrev pub refused_if : {E : Type 0} → Bool → E → Result ⊤ E
refused_if test fault = if test then Err fault else Ok tt

-- A function returned what the tests give, or out of memory in place of it.
abbrev pub Gives : {A E : Type 0} → E → Result A E → Result A E → Type 0
Gives memory (Ok x) stated = stated ≡ Ok x
Gives memory (Err e) stated = e ≢ memory → stated ≡ Err e
