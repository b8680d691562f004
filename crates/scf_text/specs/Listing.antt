-- The canonical text of instructions.
use Prim.Native.Char.{code}
use Rattle.std.specs.Prelude.{ℕ, ◌/◌, ◌%◌, ◌==◌, false, List, [], ◌∷◌, ◌++◌, codes, map, if◌then◌else◌}
use Rattle.std.specs.List.{flat_map}
use Rattle.std.specs.Fmt.{decimal, digits, digit_glyph}
use Rattle.scf_insn.specs.declared.insn.Insn.{Insn}
use Rattle.scf_text.specs.declared.encoding.Piece.{Piece}
use Rattle.scf_text.specs.declared.encoding.Piece.TheVariants.{Mark, Len, Accumulator, Index, Number, Target}
use Rattle.scf_text.specs.declared.encoding.Style.{Style}
use Rattle.scf_text.specs.declared.encoding.Style.TheVariants.{Decimal, Hexadecimal, FourDigits}
use Rattle.scf_text.specs.Encodings.{field_of, encoding_for}

-- four digits are the last hexadecimal ones
abbrev pub number_text : Style → ℕ → List ℕ
number_text Decimal n = decimal n
number_text Hexadecimal n = codes "0x" ++ digits 16 false n
number_text FourDigits n =
    codes "0x" ++ map (λ unit. digit_glyph false (n / unit % 16)) (4096 ∷ 256 ∷ 16 ∷ 1 ∷ [])

-- what stands for a piece, with one blank behind a comma
abbrev pub piece_text : Insn → Piece → List ℕ
piece_text i (Mark b) = if b == code "," then codes ", " else b ∷ []
piece_text i Len = codes "len"
piece_text i Accumulator = codes "a"
piece_text i Index = codes "x"
piece_text i (Number field style) = number_text style (field_of i field)
piece_text i (Target field) = decimal (field_of i field)

-- the operands, behind a blank where there are any
abbrev pub operands_text : Insn → List Piece → List ℕ
operands_text i [] = []
operands_text i (p ∷ ps) = code " " ∷ flat_map (piece_text i) (p ∷ ps)

-- a line, with its end
abbrev pub line_of : Insn → List ℕ
line_of i =
    let encoding = encoding_for i in
    encoding.mnemonic ++ (operands_text i encoding.pieces ++ codes "\n")

-- the canonical text
abbrev pub text_of : List Insn → List ℕ
text_of is = flat_map line_of is
