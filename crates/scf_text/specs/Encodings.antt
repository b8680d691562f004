-- The forms of an instruction, for the assembler and the disassembler alike.
use Prim.Native.Char.{code}
use Rattle.std.specs.Prelude.{ℕ, ◌==◌, ◌&&◌, ◌||◌, Bool, true, false, List, [], ◌∷◌, ◌++◌, codes, map}
use Rattle.std.specs.Option.{unwrap_or}
use Rattle.std.specs.List.{find, list_all, list_any}
use Rattle.scf_insn.specs.declared.insn.Insn.{Insn}
use Rattle.scf_insn.specs.Codes.{code_of, operations}
use Rattle.scf_insn.specs.declared.operation.Register.TheVariants.{A, X}
use Rattle.scf_insn.specs.declared.operation.Operand.{Operand}
use Rattle.scf_insn.specs.declared.operation.Operand.TheVariants as operands
use Rattle.scf_insn.specs.declared.operation.Arithmetic.{Arithmetic}
use Rattle.scf_insn.specs.declared.operation.Arithmetic.TheVariants as o
use Rattle.scf_insn.specs.declared.operation.Test.{Test}
use Rattle.scf_insn.specs.declared.operation.Test.TheVariants.{Equal, Greater, GreaterOrEqual, CommonBit}
use Rattle.scf_insn.specs.declared.operation.Operation.{Operation}
use Rattle.scf_insn.specs.declared.operation.Operation.TheVariants.{LoadWord, LoadLength, LoadConstant, LoadScratch}
use Rattle.scf_insn.specs.declared.operation.Operation.TheVariants.{StoreScratch, Compute, Negate, Jump, JumpIf}
use Rattle.scf_insn.specs.declared.operation.Operation.TheVariants.{ReturnConstant, ReturnAccumulator}
use Rattle.scf_insn.specs.declared.operation.Operation.TheVariants.{CopyToIndex, CopyToAccumulator}
use Rattle.scf_text.specs.declared.encoding.Piece.{Piece}
use Rattle.scf_text.specs.declared.encoding.Piece.TheVariants.{Mark, Len, Accumulator, Index, Number, Target}
use Rattle.scf_text.specs.declared.encoding.Field.{Field}
use Rattle.scf_text.specs.declared.encoding.Field.TheVariants.{Code, Jt, Jf, K}
use Rattle.scf_text.specs.declared.encoding.Style.TheVariants.{Decimal, Hexadecimal, FourDigits}

-- a form, by the code of the instructions that have it, the word that stands first, and what stands behind that word
pub record Encoding : Type 0 where
  pub code : ℕ
  pub mnemonic : List ℕ
  pub pieces : List Piece

-- `#K` or `x`
abbrev pub operand_pieces : Operand → List Piece
operand_pieces operands.Constant = Mark (code "#") ∷ Number K Hexadecimal ∷ []
operand_pieces operands.Index = Index ∷ []

-- `[K]`
abbrev pub index_pieces : List Piece
index_pieces = Mark (code "[") ∷ Number K Decimal ∷ Mark (code "]") ∷ []

abbrev pub arithmetic_word : Arithmetic → List ℕ
arithmetic_word o.Add = codes "add"
arithmetic_word o.Sub = codes "sub"
arithmetic_word o.Mul = codes "mul"
arithmetic_word o.Div = codes "div"
arithmetic_word o.Or = codes "or"
arithmetic_word o.And = codes "and"
arithmetic_word o.Lsh = codes "lsh"
arithmetic_word o.Rsh = codes "rsh"
arithmetic_word o.Xor = codes "xor"

abbrev pub test_word : Test → List ℕ
test_word Equal = codes "jeq"
test_word Greater = codes "jgt"
test_word GreaterOrEqual = codes "jge"
test_word CommonBit = codes "jset"

-- the word for an operation, and what stands behind that word
abbrev pub word_and_pieces : Operation → List ℕ × List Piece
word_and_pieces LoadWord = (codes "ld", index_pieces)
word_and_pieces (LoadLength A) = (codes "ld", Len ∷ [])
word_and_pieces (LoadLength X) = (codes "ldx", Len ∷ [])
word_and_pieces (LoadConstant A) = (codes "ld", operand_pieces operands.Constant)
word_and_pieces (LoadConstant X) = (codes "ldx", operand_pieces operands.Constant)
word_and_pieces (LoadScratch A) = (codes "ld", Mark (code "M") ∷ index_pieces)
word_and_pieces (LoadScratch X) = (codes "ldx", Mark (code "M") ∷ index_pieces)
word_and_pieces (StoreScratch A) = (codes "st", Mark (code "M") ∷ index_pieces)
word_and_pieces (StoreScratch X) = (codes "stx", Mark (code "M") ∷ index_pieces)
word_and_pieces (Compute arithmetic operand) = (arithmetic_word arithmetic, operand_pieces operand)
word_and_pieces Negate = (codes "neg", [])
word_and_pieces Jump = (codes "ja", Target K ∷ [])
word_and_pieces (JumpIf test operand) =
    (test_word test, operand_pieces operand ++ Mark (code ",") ∷ Target Jt ∷ Mark (code ",") ∷ Target Jf ∷ [])
word_and_pieces ReturnConstant = (codes "ret", operand_pieces operands.Constant)
word_and_pieces ReturnAccumulator = (codes "ret", Accumulator ∷ [])
word_and_pieces CopyToIndex = (codes "tax", [])
word_and_pieces CopyToAccumulator = (codes "txa", [])

-- the forms of the 41 codes
unfoldable pub known_encodings : List Encoding
known_encodings = map (λ operation. let form = word_and_pieces operation in
    record { code = code_of operation; mnemonic = form.0; pieces = form.1 }) operations

-- The form that every instruction has. Its code stands among its operands, so the 0 here is always written over.
abbrev pub raw : Encoding
raw =
    let fields = Number Jt Decimal ∷ Mark (code ",") ∷ Number Jf Decimal ∷ Mark (code ",") ∷ Number K Hexadecimal ∷ []
    in
    record { code = 0; mnemonic = codes "raw"; pieces = Number Code FourDigits ∷ Mark (code ",") ∷ fields }

abbrev pub encodings : List Encoding
encodings = raw ∷ known_encodings

abbrev pub field_of : Insn → Field → ℕ
field_of i Code = i.code
field_of i Jt = i.jt
field_of i Jf = i.jf
field_of i K = i.k

abbrev pub same_field : Field → Field → Bool
same_field Code Code = true
same_field Jt Jt = true
same_field Jf Jf = true
same_field K K = true
same_field _ _ = false

-- the piece names the field
abbrev pub names : Field → Piece → Bool
names field (Number f style) = same_field field f
names field (Target f) = same_field field f
names field _ = false

-- the form has the instruction's code and says all of it: each field that it doesn't name is 0
abbrev pub tells_all : Insn → Encoding → Bool
tells_all i encoding = encoding.code == i.code
    && list_all (λ field. list_any (names field) encoding.pieces || field_of i field == 0) (Jt ∷ Jf ∷ K ∷ [])

-- the form in which an instruction is listed: that of its code, unless a field that it doesn't name isn't 0
unfoldable pub encoding_for : Insn → Encoding
encoding_for i = unwrap_or (find (tells_all i) known_encodings) raw
