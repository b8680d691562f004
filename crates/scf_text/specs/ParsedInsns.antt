-- What the tokens of an instruction say.
use Prim.Native.Char.{code}
use Rattle.std.specs.Prelude.{ℕ, ◌==◌, ◌&&◌, ◌||◌, ◌-◌, ◌^◌, Bool, true, List, [], ◌∷◌, Option, Some, None, min, nat_lt, codes}
use Rattle.std.specs.Prelude.{if◌then◌else◌}
use Rattle.std.specs.Option.{option_map, option_and_then, option_or}
use Rattle.std.specs.Char.{is_ascii_alphabetic}
use Rattle.std.specs.List.{list_any}
use Rattle.std.specs.Str.{bytes_eq}
use Rattle.scf_insn.specs.Numbers.{number_of}
use Rattle.scf_text.specs.declared.encoding.Piece.{Piece}
use Rattle.scf_text.specs.declared.encoding.Piece.TheVariants as p
use Rattle.scf_text.specs.declared.encoding.Field.{Field}
use Rattle.scf_text.specs.declared.encoding.Field.TheVariants.{Code, Jt, Jf, K}
use Rattle.scf_text.specs.Characters.{begins_in}
use Rattle.scf_text.specs.Encodings.{Encoding, encodings}

-- what stands for a field: a number, or the name of an index
pub data FieldValue : Type 0 where
  Number : (n : ℕ) → FieldValue
  Label : (name : List ℕ) → FieldValue

-- an instruction as it is written
pub record ParsedInsn : Type 0 where
  pub code : ℕ
  pub jt : FieldValue
  pub jf : FieldValue
  pub k : FieldValue

-- an instruction in a form, before any field is named
abbrev pub blank : Encoding → ParsedInsn
blank encoding = record { code = encoding.code; jt = Number 0; jf = Number 0; k = Number 0 }

-- a token is a name where it begins with a letter or `_`
abbrev pub is_name : List ℕ → Bool
is_name = begins_in (λ b. is_ascii_alphabetic b || b == code "_")

abbrev pub with_field : Field → FieldValue → ParsedInsn → ParsedInsn
with_field Code (Number n) d = record { code = n; jt = d.jt; jf = d.jf; k = d.k }
with_field Code (Label name) d = d
with_field Jt o d = record { code = d.code; jt = o; jf = d.jf; k = d.k }
with_field Jf o d = record { code = d.code; jt = d.jt; jf = o; k = d.k }
with_field K o d = record { code = d.code; jt = d.jt; jf = d.jf; k = o }

-- the tokens that may stand for a piece that is no field
abbrev pub spellings : Piece → List (List ℕ)
spellings (p.Mark b) = (b ∷ []) ∷ []
spellings p.Len = codes "len" ∷ []
spellings p.Accumulator = codes "a" ∷ codes "A" ∷ []
spellings p.Index = codes "x" ∷ codes "X" ∷ []
spellings (p.Number field style) = []
spellings (p.Target field) = []

abbrev pub has_mnemonic : List ℕ → Encoding → Bool
has_mnemonic t encoding = bytes_eq t encoding.mnemonic

-- How tokens are read, given what number a token is.
module _ (number : List ℕ → Option ℕ) where
  -- the draft after a token stands for a piece
  abbrev pub put_by : Piece → List ℕ → ParsedInsn → Option ParsedInsn
  put_by (p.Number field style) t d = option_map (λ n. with_field field (Number n) d) (number t)
  put_by (p.Target field) t d =
      if is_name t then Some (with_field field (Label t) d)
      else option_map (λ n. with_field field (Number n) d) (number t)
  put_by piece t d = if list_any (bytes_eq t) (spellings piece) then Some d else None

  abbrev pub fill_by : List Piece → List (List ℕ) → ParsedInsn → Option ParsedInsn
  fill_by [] [] d = Some d
  fill_by (piece ∷ pieces) (t ∷ ts) d = option_and_then (fill_by pieces ts) (put_by piece t d)
  fill_by _ _ d = None

  -- What a mnemonic and the tokens behind it say in the first of the forms that they have: fields not named are 0.
  abbrev pub read_by : List Encoding → List ℕ → List (List ℕ) → Option ParsedInsn
  read_by [] t ts = None
  read_by (encoding ∷ remaining) t ts =
      option_or (if has_mnemonic t encoding then fill_by encoding.pieces ts (blank encoding) else None)
      (read_by remaining t ts)

-- The number of a token. No field has room for one past 2 ^ 64 - 1, nor for that one.
unfoldable pub field_number : List ℕ → Option ℕ
field_number t = option_map (min (2 ^ 64 - 1)) (number_of t)

-- what a mnemonic and the tokens behind it say
unfoldable pub parsed_of : List ℕ → List (List ℕ) → Option ParsedInsn
parsed_of t ts = read_by field_number encodings t ts

abbrev pub is_below : ℕ → FieldValue → Bool
is_below limit (Number n) = nat_lt n limit
is_below limit (Label name) = true

-- each number fits its field
abbrev pub is_in_range : ParsedInsn → Bool
is_in_range d =
    nat_lt d.code (2 ^ 16) && (is_below (2 ^ 8) d.jt && (is_below (2 ^ 8) d.jf && is_below (2 ^ 32) d.k))
