-- The tokens of a text.
use Prim.Native.Char.{code}
use Rattle.std.specs.Prelude.{◌≡◌, ℕ, ◌+◌, ◌==◌, ◌&&◌, List, [], ◌∷◌, ◌++◌, length, map, take, drop}
use Rattle.std.specs.Prelude.{if◌then◌else◌}
use Rattle.std.specs.List.{slice_split}
use Rattle.scf_text.specs.declared.token.Token.{Token}
use Rattle.scf_text.specs.Characters.{is_line_end, is_blank, is_word_byte, begins_in}

-- a token, and the index in the text where it begins
pub record Lexeme : Type 0 where
  pub start : ℕ
  pub text : List ℕ

-- what a token of the code stands for
abbrev pub lexeme : Token → Lexeme
lexeme token = record { start = token.start; text = token.text.now }

abbrev pub lexemes : List Token → List Lexeme
lexemes tokens = map lexeme tokens

-- Lines end at LF, which the last may lack.
abbrev pub lines_of : List ℕ → List (List ℕ)
lines_of text = slice_split is_line_end text

-- a line without its comment, which goes from the first `//` to the end
abbrev pub before_comment : List ℕ → List ℕ
before_comment [] = []
before_comment (b ∷ bs) =
    if b == code "/" && begins_in (λ c. c == code "/") bs then [] else b ∷ before_comment bs

-- the byte at this index, in front of the first of the tokens
abbrev pub joined : ℕ → ℕ → List Lexeme → List Lexeme
joined at b [] = record { start = at; text = b ∷ [] } ∷ []
joined at b (t ∷ ts) = record { start = at; text = b ∷ t.text } ∷ ts

-- The tokens of a part of a line, which begins at this index. Blanks separate tokens. Letters, digits and `_` that
-- stand together are one token, a word or a number, and every other byte is a token by itself.
unfoldable pub lexemes_from : ℕ → List ℕ → List Lexeme
lexemes_from at [] = []
lexemes_from at (b ∷ bs) =
    if is_blank b then lexemes_from (at + 1) bs
    else if is_word_byte b && begins_in is_word_byte bs then joined at b (lexemes_from (at + 1) bs)
    else record { start = at; text = b ∷ [] } ∷ lexemes_from (at + 1) bs

-- the tokens of lines, the first of which begins at this index
abbrev pub lexemes_of_lines : ℕ → List (List ℕ) → List Lexeme
lexemes_of_lines at [] = []
lexemes_of_lines at (line ∷ lines) =
    lexemes_from at (before_comment line) ++ lexemes_of_lines (at + length line + 1) lines

-- the tokens of a text, in order
unfoldable pub tokens_of : List ℕ → List Lexeme
tokens_of text = lexemes_of_lines 0 (lines_of text)

-- the texts of the tokens of a line
abbrev pub words_of_line : List ℕ → List (List ℕ)
words_of_line line = map (λ (t : Lexeme). t.text) (lexemes_from 0 (before_comment line))

-- these bytes are the slice of the text at this index
abbrev pub IsSliceOf : List ℕ → ℕ → List ℕ → Type 0
IsSliceOf text start bytes = bytes ≡ take (length bytes) (drop start text)
