-- Sides whose tests are of words, or of words under masks.
use Rattle.std.specs.Prelude.{◌≡◌, ◌+◌, ◌⊎◌, ℕ, List, All, Bool, false, true}
use Rattle.scf_insn.specs.SimpleMask.{IsSimpleMask}
use Rattle.scf_insn.specs.Words.{low, high}
use Rattle.scf_insn.specs.declared.insn.Insn.{Insn}
use Rattle.scf_insn.specs.declared.operation.Arithmetic.TheVariants.{And}
use Rattle.scf_insn.specs.declared.operation.Operand.TheVariants.{Constant}
use Rattle.scf_insn.specs.declared.operation.Operation.{Operation}
use Rattle.scf_insn.specs.declared.operation.Operation.TheVariants.{Compute, Jump, JumpIf, LoadWord, ReturnConstant}
use Rattle.scf_insn.specs.declared.operation.Test.{Test}
use Rattle.scf_insn.specs.declared.operation.Test.TheVariants.{CommonBit, Equal, Greater, GreaterOrEqual}
use Rattle.scf_machine.specs.Rules.{Stands}
use Rattle.scf_facts.specs.Masks.{IsAmong}
use Rattle.scf_profile.specs.Profile.{Profile}
use Rattle.scf_profile.specs.declared.condition.Condition.{Condition}
use Rattle.scf_profile.specs.declared.condition.Operator.TheVariants.{MaskedEqual}
use Rattle.scf_profile.specs.declared.rule.Rule.{Rule}

-- a mask is simple, or its bits are among those of the masks
abbrev pub IsMaskOf : ℕ → ℕ → Type 0
IsMaskOf masks mask = IsSimpleMask mask ⊎ IsAmong mask masks

-- A test against a constant: under a mask for common bits, and no order where the accumulator may be under a mask.
abbrev pub IsMaskedTest : ℕ → Bool → Test → ℕ → Type 0
IsMaskedTest masks under Equal value = Unit {0}
IsMaskedTest masks under CommonBit value = IsMaskOf masks value
IsMaskedTest masks under Greater value = under ≡ false
IsMaskedTest masks under GreaterOrEqual value = under ≡ false

-- where the accumulator may be under a mask at one instruction, it may be at the next one
abbrev pub GoesUnder : (ℕ → Bool) → ℕ → ℕ → Type 0
GoesUnder under at next = under at ≡ true → under next ≡ true

-- An instruction loads a word, takes it under a mask, tests it against a constant, jumps, or returns a constant.
abbrev pub IsMaskedOperation : ℕ → (ℕ → Bool) → ℕ → Operation → Insn → Type 0
IsMaskedOperation masks under at LoadWord i = Unit {0}
IsMaskedOperation masks under at (Compute And Constant) i = IsMaskOf masks i.k × (under (at + 1) ≡ true)
IsMaskedOperation masks under at Jump i = GoesUnder under at (at + 1 + i.k)
IsMaskedOperation masks under at (JumpIf test Constant) i =
    IsMaskedTest masks (under at) test i.k × GoesUnder under at (at + 1 + i.jt) × GoesUnder under at (at + 1 + i.jf)
IsMaskedOperation masks under at ReturnConstant i = Unit {0}
IsMaskedOperation masks under at _ i = ⊥

-- Each instruction of a program is so, given where the accumulator may be under a mask: behind an `and`, until the next
-- load.
pub record IsMaskedProgram (masks : ℕ) (insns : List Insn) : Type 0 where
  pub under : ℕ → Bool
  pub each : (at : ℕ) (i : Insn) (operation : Operation) → Stands insns at i operation
      → IsMaskedOperation masks under at operation i

-- both 32-bit halves of a condition's mask are so
abbrev pub IsMaskedCondition : ℕ → Condition → Type 0
IsMaskedCondition masks c = c.op ≡ MaskedEqual → IsMaskOf masks (low c.value) × IsMaskOf masks (high c.value)

pub record IsMaskedRule (masks : ℕ) (r : Rule) : Type 0 where
  pub conditions : All (IsMaskedCondition masks) r.conditions

abbrev pub IsMaskedProfile : ℕ → Profile → Type 0
IsMaskedProfile masks p = All (IsMaskedRule masks) p.rules
