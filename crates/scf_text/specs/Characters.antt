-- The bytes of a text (ASCII).
use Prim.Native.Char.{code}
use Rattle.std.specs.Prelude.{ℕ, Bool, false, ◌==◌, ◌||◌, List, [], ◌∷◌}
use Rattle.std.specs.Char.{is_ascii_alphanumeric}

abbrev pub is_line_end : ℕ → Bool
is_line_end b = b == code "\n"

-- Blanks separate tokens and have no other meaning.
abbrev pub is_blank : ℕ → Bool
is_blank b = b == code " " || b == code "\t" || b == code "\r"

-- the bytes begin with one of these
abbrev pub begins_in : (ℕ → Bool) → List ℕ → Bool
begins_in p [] = false
begins_in p (b ∷ bs) = p b

-- a letter, a digit or `_`
abbrev pub is_word_byte : ℕ → Bool
is_word_byte b = is_ascii_alphanumeric b || b == code "_"
