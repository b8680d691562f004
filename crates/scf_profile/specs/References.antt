-- What references point to.
use Rattle.std.specs.Prelude.{ℕ, List, map}
use Rattle.std.specs.Borrow.{Bor}

-- the bytes of the texts that references point to
abbrev pub texts_at : List (Bor (List ℕ)) → List (List ℕ)
texts_at references = map (λ text. text.now) references
