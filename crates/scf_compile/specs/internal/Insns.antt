-- The instructions that compiled filters are made of (Linux uapi filter.h).
use Rattle.std.specs.Prelude.{ℕ, ◌*◌}
use Rattle.scf_insn.specs.declared.insn.Insn.{Insn}
use Rattle.scf_insn.specs.declared.operation.Test.{Test}
use Rattle.scf_insn.specs.declared.operation.Operand.TheVariants.{Constant}
use Rattle.scf_insn.specs.declared.operation.Arithmetic.TheVariants.{And}
use Rattle.scf_insn.specs.declared.operation.Operation.TheVariants.{LoadWord, Compute, Jump, JumpIf, ReturnConstant}
use Rattle.scf_insn.specs.Codes.{code_of}

-- loads a word of the record
abbrev pub load_word : ℕ → Insn
load_word word = record { code = code_of LoadWord; jt = 0; jf = 0; k = 4 * word }

-- keeps the bits of a mask in the accumulator
abbrev pub and_with : ℕ → Insn
and_with mask = record { code = code_of (Compute And Constant); jt = 0; jf = 0; k = mask }

-- passes `hit` instructions where the test of the accumulator against a constant holds, else `miss`
abbrev pub jump_if : Test → ℕ → ℕ → ℕ → Insn
jump_if test constant hit miss = record { code = code_of (JumpIf test Constant); jt = hit; jf = miss; k = constant }

-- passes some instructions
abbrev pub jump_over : ℕ → Insn
jump_over count = record { code = code_of Jump; jt = 0; jf = 0; k = count }

abbrev pub return_with : ℕ → Insn
return_with answer = record { code = code_of ReturnConstant; jt = 0; jf = 0; k = answer }
