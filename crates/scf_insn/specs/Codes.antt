-- The 41 instruction codes of the seccomp subset (Linux uapi filter.h and bpf_common.h), and what each asks for.
use Rattle.std.specs.Prelude.{ℕ, ◌+◌, ◌==◌, List, [], ◌∷◌, Option}
use Rattle.std.specs.List.{find}
use Rattle.scf_insn.specs.declared.operation.Register.TheVariants.{A, X}
use Rattle.scf_insn.specs.declared.operation.Operand.{Operand}
use Rattle.scf_insn.specs.declared.operation.Operand.TheVariants.{Constant, Index}
use Rattle.scf_insn.specs.declared.operation.Arithmetic.{Arithmetic}
use Rattle.scf_insn.specs.declared.operation.Arithmetic.TheVariants.{Add, Sub, Mul, Div, Or, And, Lsh, Rsh, Xor}
use Rattle.scf_insn.specs.declared.operation.Test.{Test}
use Rattle.scf_insn.specs.declared.operation.Test.TheVariants.{Equal, Greater, GreaterOrEqual, CommonBit}
use Rattle.scf_insn.specs.declared.operation.Operation.{Operation}
use Rattle.scf_insn.specs.declared.operation.Operation.TheVariants.{LoadWord, LoadLength, LoadConstant, LoadScratch}
use Rattle.scf_insn.specs.declared.operation.Operation.TheVariants.{StoreScratch, Compute, Negate, Jump, JumpIf}
use Rattle.scf_insn.specs.declared.operation.Operation.TheVariants.{ReturnConstant, ReturnAccumulator}
use Rattle.scf_insn.specs.declared.operation.Operation.TheVariants.{CopyToIndex, CopyToAccumulator}

-- the second operand: BPF_K, BPF_X
abbrev pub operand_bits : Operand → ℕ
operand_bits Constant = 0x00
operand_bits Index = 0x08

-- the computation: BPF_ADD, BPF_SUB ..
abbrev pub arithmetic_bits : Arithmetic → ℕ
arithmetic_bits Add = 0x00
arithmetic_bits Sub = 0x10
arithmetic_bits Mul = 0x20
arithmetic_bits Div = 0x30
arithmetic_bits Or = 0x40
arithmetic_bits And = 0x50
arithmetic_bits Lsh = 0x60
arithmetic_bits Rsh = 0x70
arithmetic_bits Xor = 0xa0

-- the test: BPF_JEQ, BPF_JGT, BPF_JGE, BPF_JSET
abbrev pub test_bits : Test → ℕ
test_bits Equal = 0x10
test_bits Greater = 0x20
test_bits GreaterOrEqual = 0x30
test_bits CommonBit = 0x40

-- the code of an operation
abbrev pub code_of : Operation → ℕ
code_of LoadWord = 0x20
code_of (LoadLength A) = 0x80
code_of (LoadLength X) = 0x81
code_of (LoadConstant A) = 0x00
code_of (LoadConstant X) = 0x01
code_of (LoadScratch A) = 0x60
code_of (LoadScratch X) = 0x61
code_of (StoreScratch A) = 0x02
code_of (StoreScratch X) = 0x03
code_of (Compute arithmetic operand) = 0x04 + arithmetic_bits arithmetic + operand_bits operand
code_of Negate = 0x84
code_of Jump = 0x05
code_of (JumpIf test operand) = 0x05 + test_bits test + operand_bits operand
code_of ReturnConstant = 0x06
code_of ReturnAccumulator = 0x16
code_of CopyToIndex = 0x07
code_of CopyToAccumulator = 0x87

-- the operations, by class: loads, stores, computations, jumps, returns and copies
abbrev pub operations : List Operation
operations =
    LoadWord ∷ LoadLength A ∷ LoadLength X ∷ LoadConstant A ∷ LoadConstant X ∷ LoadScratch A ∷ LoadScratch X
    ∷ StoreScratch A ∷ StoreScratch X
    ∷ Compute Add Constant ∷ Compute Add Index ∷ Compute Sub Constant ∷ Compute Sub Index
    ∷ Compute Mul Constant ∷ Compute Mul Index ∷ Compute Div Constant ∷ Compute Div Index
    ∷ Compute Or Constant ∷ Compute Or Index ∷ Compute And Constant ∷ Compute And Index
    ∷ Compute Lsh Constant ∷ Compute Lsh Index ∷ Compute Rsh Constant ∷ Compute Rsh Index
    ∷ Compute Xor Constant ∷ Compute Xor Index ∷ Negate
    ∷ Jump
    ∷ JumpIf Equal Constant ∷ JumpIf Equal Index ∷ JumpIf Greater Constant ∷ JumpIf Greater Index
    ∷ JumpIf GreaterOrEqual Constant ∷ JumpIf GreaterOrEqual Index ∷ JumpIf CommonBit Constant ∷ JumpIf CommonBit Index
    ∷ ReturnConstant ∷ ReturnAccumulator ∷ CopyToIndex ∷ CopyToAccumulator
    ∷ []

-- the operation of a code, None where it isn't one of the 41
unfoldable pub operation_of : ℕ → Option Operation
operation_of code = find (λ operation. code_of operation == code) operations
