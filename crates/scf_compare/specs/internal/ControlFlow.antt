-- How instructions go on.
use Rattle.std.specs.Prelude.{◌+◌, ◌<◌, ℕ}
use Rattle.scf_insn.specs.declared.insn.Insn.{Insn}
use Rattle.scf_insn.specs.declared.operation.Operand.TheVariants.{Index}
use Rattle.scf_insn.specs.declared.operation.Arithmetic.TheVariants.{Div}
use Rattle.scf_insn.specs.declared.operation.Operation.{Operation}
use Rattle.scf_insn.specs.declared.operation.Operation.TheVariants.{LoadScratch, StoreScratch, Compute, Jump as Jumps, JumpIf, ReturnConstant as ReturnsConstant, ReturnAccumulator as ReturnsAccumulator}
use Rattle.scf_compare.specs.declared.control_flow.ControlFlow.{ControlFlow}
use Rattle.scf_compare.specs.declared.control_flow.ControlFlow.TheVariants.{FallThrough, Jump, ConditionalJump, DivideByIndex, ReturnConstant, ReturnAccumulator}

-- how an instruction goes on from an index
abbrev pub control_flow_at : Operation → Insn → ℕ → ControlFlow
control_flow_at Jumps i index = Jump (index + 1 + i.k)
control_flow_at (JumpIf test operand) i index = ConditionalJump test operand (index + 1 + i.jt) (index + 1 + i.jf)
control_flow_at ReturnsConstant i index = ReturnConstant
control_flow_at ReturnsAccumulator i index = ReturnAccumulator
control_flow_at (Compute Div Index) i index = DivideByIndex (index + 1)
control_flow_at _ i index = FallThrough (index + 1)

-- it loads or stores a scratch word
abbrev pub UsesScratch : Operation → Type 0
UsesScratch (LoadScratch r) = Unit {0}
UsesScratch (StoreScratch r) = Unit {0}
UsesScratch _ = ⊥

-- the indices that it goes on to are above its own and below a length
abbrev pub IsInside : ℕ → ℕ → ControlFlow → Type 0
IsInside index len (FallThrough next) = (index < next) × (next < len)
IsInside index len (Jump target) = (index < target) × (target < len)
IsInside index len (ConditionalJump test operand if_true if_false) =
    (index < if_true) × (if_true < len) × (index < if_false) × (if_false < len)
IsInside index len (DivideByIndex next) = (index < next) × (next < len)
IsInside index len ReturnConstant = Unit {0}
IsInside index len ReturnAccumulator = Unit {0}

-- the size of the tree of paths where an instruction goes on so
abbrev pub size_of_flow : ControlFlow → (ℕ → ℕ) → ℕ
size_of_flow (FallThrough next) size = 1 + size next
size_of_flow (Jump target) size = 1 + size target
size_of_flow (ConditionalJump test operand if_true if_false) size = 1 + size if_true + size if_false
size_of_flow (DivideByIndex next) size = 2 + size next
size_of_flow ReturnConstant size = 1
size_of_flow ReturnAccumulator size = 1
