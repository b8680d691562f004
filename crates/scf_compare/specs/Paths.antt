-- The size of a program's tree of paths.
use Rattle.std.specs.Prelude.{◌+◌, ℕ, List, [], ◌∷◌, Option, Some, slice_index_or}
use Rattle.scf_insn.specs.declared.insn.Insn.{Insn}
use Rattle.scf_insn.specs.declared.operation.Operand.TheVariants.{Index}
use Rattle.scf_insn.specs.declared.operation.Arithmetic.TheVariants.{Div}
use Rattle.scf_insn.specs.declared.operation.Operation.{Operation}
use Rattle.scf_insn.specs.declared.operation.Operation.TheVariants.{Compute, Jump as Jumps, JumpIf, ReturnConstant as ReturnsConstant, ReturnAccumulator as ReturnsAccumulator}
use Rattle.scf_insn.specs.Codes.{operation_of}

-- The size of the tree of paths from an instruction on, where the sizes at the indices after it are given: a return
-- counts 1, a jump 1 more than its target, a conditional jump 1 more than both of its targets, a division by the index
-- register 2 more than the next instruction, and any other instruction 1 more than the next one.
abbrev pub size_of_insn : Option Operation → Insn → List ℕ → ℕ
size_of_insn (Some Jumps) i later = 1 + slice_index_or later i.k 1
size_of_insn (Some (JumpIf test operand)) i later = 1 + slice_index_or later i.jt 1 + slice_index_or later i.jf 1
size_of_insn (Some (Compute Div Index)) i later = 2 + slice_index_or later 0 1
size_of_insn (Some ReturnsConstant) i later = 1
size_of_insn (Some ReturnsAccumulator) i later = 1
size_of_insn _ i later = 1 + slice_index_or later 0 1

-- the sizes of the trees of paths from all indices of a list on
unfoldable pub tree_sizes : List Insn → List ℕ
tree_sizes [] = []
tree_sizes (i ∷ insns) = size_of_insn (operation_of i.code) i (tree_sizes insns) ∷ tree_sizes insns

-- the size of the tree of paths from an index on
abbrev pub tree_size : List Insn → ℕ → ℕ
tree_size insns index = slice_index_or (tree_sizes insns) index 1
