-- Parts of a line, which begin in one of its statements.
use Prim.Native.Char.{code}
use Rattle.std.specs.Prelude.{ℕ, Bool, false, ◌==◌, ◌&&◌, List, [], ◌∷◌, map, drop, Option, Some, None, codes}
use Rattle.std.specs.Str.{bytes_eq}
use Rattle.std.specs.Borrow.{Bor}
use Rattle.std.specs.List.{slice_split}
use Rattle.scf_text.specs.declared.part.Next.{Next}
use Rattle.scf_text.specs.declared.part.Next.TheVariants.{Token, End}
use Rattle.scf_text.specs.Tokens.{Lexeme, lexemes_from, lines_of}
use Rattle.scf_text.specs.Characters.{is_word_byte, begins_in}

-- the bytes begin with `//`
abbrev pub begins_comment : List ℕ → Bool
begins_comment [] = false
begins_comment (b ∷ bs) = b == code "/" && begins_in (λ c. c == code "/") bs

abbrev pub begins_in_word : List ℕ → Bool
begins_in_word = begins_in is_word_byte

abbrev pub is_semicolon : List ℕ → Bool
is_semicolon t = bytes_eq t (codes ";")

-- the texts of the tokens of a part
abbrev pub words_of_part : List ℕ → List (List ℕ)
words_of_part part = map (λ (t : Lexeme). t.text) (lexemes_from 0 part)

-- the tokens of the statements, the first of which begins with the part
abbrev pub statements_in : List ℕ → List (List (List ℕ))
statements_in part = slice_split is_semicolon (words_of_part part)

abbrev pub first_statement : List (List (List ℕ)) → List (List ℕ)
first_statement [] = []
first_statement (s ∷ ss) = s

-- the tokens of the first
unfoldable pub words_in : List ℕ → List (List ℕ)
words_in part = first_statement (statements_in part)

-- the tokens of the others
unfoldable pub others_in : List ℕ → List (List (List ℕ))
others_in part = drop 1 (statements_in part)

-- the tokens of the statements of what follows a statement
abbrev pub statements_after : Option (Bor (List ℕ)) → List (List (List ℕ))
statements_after None = []
statements_after (Some remaining) = words_in remaining.now ∷ others_in remaining.now

-- the tokens of a statement, of which this stands in front
abbrev pub words_at : Next → List (List ℕ)
words_at (Token t remaining) = t.text.now ∷ words_in remaining.now
words_at (End remaining) = []

-- the tokens of the statements behind it
abbrev pub others_at : Next → List (List (List ℕ))
others_at (Token t remaining) = others_in remaining.now
others_at (End remaining) = statements_after remaining

-- the lines behind the first
abbrev pub lines_after : Option (Bor (List ℕ)) → List (List ℕ)
lines_after None = []
lines_after (Some remaining) = lines_of remaining.now
