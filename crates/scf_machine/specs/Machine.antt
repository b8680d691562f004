-- The machine that runs a filter over the words of a call record (Linux uapi filter.h and seccomp.h).
use Rattle.std.specs.Prelude.{◌≡◌, ℕ, ◌+◌, ◌-◌, ◌*◌, ◌/◌, ◌%◌, ◌^◌, ◌≤◌, ◌==◌, nat_lt, not, ◌&&◌, Bool, List, [], ◌∷◌}
use Rattle.std.specs.Prelude.{length, Option, None, Some, if◌then◌else◌, bit_and, bit_or, bit_xor, slice_get}
use Rattle.std.specs.Prelude.{slice_index}
use Rattle.std.specs.Map.{lookup}
use Rattle.std.specs.Option.{option_map_or}
use Rattle.scf_insn.specs.declared.insn.Insn.{Insn}
use Rattle.scf_insn.specs.declared.operation.Register.{Register}
use Rattle.scf_insn.specs.declared.operation.Register.TheVariants.{A, X}
use Rattle.scf_insn.specs.declared.operation.Operand.{Operand}
use Rattle.scf_insn.specs.declared.operation.Operand.TheVariants.{Constant, Index}
use Rattle.scf_insn.specs.declared.operation.Arithmetic.{Arithmetic}
use Rattle.scf_insn.specs.declared.operation.Arithmetic.TheVariants.{Add, Sub, Mul, Div, Or, And, Lsh, Rsh, Xor}
use Rattle.scf_insn.specs.declared.operation.Test.{Test}
use Rattle.scf_insn.specs.declared.operation.Test.TheVariants.{Equal, Greater, GreaterOrEqual, CommonBit}
use Rattle.scf_insn.specs.declared.operation.Operation.{Operation}
use Rattle.scf_insn.specs.declared.operation.Operation.TheVariants.{LoadWord, LoadLength, LoadConstant, LoadScratch}
use Rattle.scf_insn.specs.declared.operation.Operation.TheVariants.{StoreScratch, Compute, Negate, Jump, JumpIf}
use Rattle.scf_insn.specs.declared.operation.Operation.TheVariants.{ReturnConstant, ReturnAccumulator, CopyToIndex}
use Rattle.scf_insn.specs.declared.operation.Operation.TheVariants.{CopyToAccumulator}
use Rattle.scf_insn.specs.Codes.{operation_of}
use Rattle.scf_insn.specs.Kernel.{bpf_memwords, seccomp_data_len}

-- A state: the index of the next instruction, the accumulator, the index register, and the scratch words that were
-- stored, by their index, the newest first.
pub record State : Type 0 where
  pub pc : ℕ
  pub a : ℕ
  pub x : ℕ
  pub scratch : List (ℕ × ℕ)

abbrev pub start : State
start = record { pc = 0; a = 0; x = 0; scratch = [] }

-- Why a machine can't go on.
pub data Fault : Type 0 where
  NoInstruction UnknownCode LoadOutsideRecord NoSuchScratchWord UnsetScratchWord DivisionByZero ShiftTooFar : Fault

-- What one step leads to.
pub data Outcome : Type 0 where
  Goes : State → Outcome
  Ends : ℕ → Outcome
  Faults : Fault → Outcome

-- the scratch word of an index, None where none was stored
abbrev pub word_at : List (ℕ × ℕ) → ℕ → Option ℕ
word_at scratch n = lookup (λ index. index == n) scratch

abbrev pub value_of : Register → State → ℕ
value_of A s = s.a
value_of X s = s.x

-- the next state, at the next instruction, with a register set
abbrev pub sets : Register → State → ℕ → State
sets A s n = record s { pc = s.pc + 1; a = n }
sets X s n = record s { pc = s.pc + 1; x = n }

-- the next state, at the next instruction, with a scratch word stored
abbrev pub stores : State → ℕ → ℕ → State
stores s n value = record s { pc = s.pc + 1; scratch = (n, value) ∷ s.scratch }

-- the state at the target of a jump
abbrev pub jumps_to : State → ℕ → State
jumps_to s target = record s { pc = target }

-- the second operand of a test: the constant k, or the index register
abbrev pub operand_of : Operand → Insn → State → ℕ
operand_of Constant i s = i.k
operand_of Index i s = s.x

-- the second operand of a computation: of a shift by the index register, its low five bits
abbrev pub operand_in_computation : Arithmetic → Operand → Insn → State → ℕ
operand_in_computation Lsh Index i s = s.x % 32
operand_in_computation Rsh Index i s = s.x % 32
operand_in_computation arithmetic operand i s = operand_of operand i s

-- what a computation on two numbers gives
abbrev pub value_computed : Arithmetic → ℕ → ℕ → ℕ
value_computed Add a v = (a + v) % 2 ^ 32
value_computed Sub a v = (a + 2 ^ 32 - v) % 2 ^ 32
value_computed Mul a v = (a * v) % 2 ^ 32
value_computed Div a v = a / v
value_computed Or a v = bit_or a v
value_computed And a v = bit_and a v
value_computed Lsh a v = (a * 2 ^ v) % 2 ^ 32
value_computed Rsh a v = a / 2 ^ v
value_computed Xor a v = bit_xor a v

-- whether a test of two unsigned numbers holds
abbrev pub holds : Test → ℕ → ℕ → Bool
holds Equal a v = a == v
holds Greater a v = nat_lt v a
holds GreaterOrEqual a v = not (nat_lt a v)
holds CommonBit a v = not (bit_and a v == 0)

-- the outcome where the condition holds, else a fault
abbrev pub unless : Bool → Fault → Outcome → Outcome
unless condition fault outcome = (if condition then outcome else Faults fault)

-- a constant divisor of 0 and a constant shift past 31 are faults, and a division by an index register of 0 answers 0
abbrev pub computation : Arithmetic → Operand → Insn → State → Outcome
computation Div Constant i s = unless (not (i.k == 0)) DivisionByZero (Goes (sets A s (value_computed Div s.a i.k)))
computation Div Index i s = (if s.x == 0 then Ends 0 else Goes (sets A s (value_computed Div s.a s.x)))
computation Lsh Constant i s = unless (nat_lt i.k 32) ShiftTooFar (Goes (sets A s (value_computed Lsh s.a i.k)))
computation Rsh Constant i s = unless (nat_lt i.k 32) ShiftTooFar (Goes (sets A s (value_computed Rsh s.a i.k)))
computation arithmetic operand i s =
    Goes (sets A s (value_computed arithmetic s.a (operand_in_computation arithmetic operand i s)))

-- a scratch word that is loaded must be stored
abbrev pub loads : Register → State → Option ℕ → Outcome
loads r s None = Faults UnsetScratchWord
loads r s (Some value) = Goes (sets r s value)

-- what an operation of an instruction does to a state, over the words of a record
abbrev pub effect : Operation → Insn → List ℕ → State → Outcome
effect LoadWord i words s = unless (nat_lt i.k seccomp_data_len && (i.k % 4 == 0)) LoadOutsideRecord
    (Goes (sets A s (slice_index words (i.k / 4))))
effect (LoadLength r) i words s = Goes (sets r s seccomp_data_len)
effect (LoadConstant r) i words s = Goes (sets r s i.k)
effect (LoadScratch r) i words s =
    unless (nat_lt i.k bpf_memwords) NoSuchScratchWord (loads r s (word_at s.scratch i.k))
effect (StoreScratch r) i words s =
    unless (nat_lt i.k bpf_memwords) NoSuchScratchWord (Goes (stores s i.k (value_of r s)))
effect (Compute arithmetic operand) i words s = computation arithmetic operand i s
effect Negate i words s = Goes (sets A s ((2 ^ 32 - s.a) % 2 ^ 32))
effect Jump i words s = Goes (jumps_to s (s.pc + 1 + i.k))
effect (JumpIf test operand) i words s =
    Goes (jumps_to s (s.pc + 1 + (if holds test s.a (operand_of operand i s) then i.jt else i.jf)))
effect ReturnConstant i words s = Ends i.k
effect ReturnAccumulator i words s = Ends s.a
effect CopyToIndex i words s = Goes (sets X s s.a)
effect CopyToAccumulator i words s = Goes (sets A s s.x)

-- one step of a list of instructions, accepted or not: a next state, an answer or a fault
abbrev pub step : List Insn → List ℕ → State → Outcome
step insns words s = option_map_or (λ i. option_map_or (λ operation. effect operation i words s)
    (operation_of i.code) (Faults UnknownCode)) (slice_get insns s.pc) (Faults NoInstruction)

-- A chain of steps from a state: it comes to another through earlier ones, the latest first.
abbrev pub IsChain : List Insn → List ℕ → State → State → List State → Type 0
IsChain insns words from s [] = s ≡ from
IsChain insns words from s (before ∷ earlier) =
    (step insns words before ≡ Goes s) × IsChain insns words from before earlier

-- A run from a state: a chain whose last state answers. All its steps count, the one that answers included.
pub record IsRunFrom (insns : List Insn) (words : List ℕ) (from : State) (answer steps : ℕ) : Type 0 where
  pub last : State
  pub earlier : List State
  pub chain : IsChain insns words from last earlier
  pub answers : step insns words last ≡ Ends answer
  pub count : steps ≡ length earlier + 1

abbrev pub IsRun : List Insn → List ℕ → ℕ → ℕ → Type 0
IsRun insns words answer steps = IsRunFrom insns words start answer steps

-- The run over a record ends in this answer.
abbrev pub RunAnswers : List Insn → List ℕ → ℕ → Type 0
RunAnswers insns words answer = (steps : ℕ) × IsRun insns words answer steps

-- The run over a record ends in this answer, at the instruction of this index.
abbrev pub EndsAt : List Insn → List ℕ → ℕ → ℕ → Type 0
EndsAt insns words index answer = (run : RunAnswers insns words answer) × (run.1.last.pc ≡ index)

-- Every run over a record ends in an answer, within as many steps as there are instructions, and none faults.
pub record RunsSafely (insns : List Insn) (words : List ℕ) : Type 0 where
  pub ends : (answer : ℕ) × RunAnswers insns words answer
  pub bounded : (s : State) (earlier : List State) → IsChain insns words start s earlier
      → length earlier + 1 ≤ length insns
  pub never_faults : (s : State) (earlier : List State) (fault : Fault) → IsChain insns words start s earlier
      → step insns words s ≡ Faults fault → ⊥
