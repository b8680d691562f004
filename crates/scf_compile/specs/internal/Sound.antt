-- Instructions that the checker takes, and that are plain where this is asked.
use Rattle.std.specs.Prelude.{◌≡◌, ℕ, ◌%◌, ◌<◌, Bool, List, [], ◌∷◌, length, Some, IsTrue}
use Rattle.scf_insn.specs.declared.insn.Insn.{Insn}
use Rattle.scf_insn.specs.declared.operation.Operand.TheVariants.{Constant}
use Rattle.scf_insn.specs.declared.operation.Arithmetic.TheVariants.{And}
use Rattle.scf_insn.specs.declared.operation.Operation.{Operation}
use Rattle.scf_insn.specs.declared.operation.Operation.TheVariants.{LoadWord, Compute, Jump, JumpIf, ReturnConstant}
use Rattle.scf_insn.specs.Codes.{operation_of}
use Rattle.scf_machine.specs.Plain.{IsPlainOperation}

-- Where this many instructions stand behind one, it goes on at one of them, or answers.
abbrev pub Keeps : Operation → Insn → ℕ → Type 0
Keeps LoadWord i behind = (i.k < 64) × (i.k % 4 ≡ 0) × (0 < behind)
Keeps (Compute And Constant) i behind = 0 < behind
Keeps Jump i behind = i.k < behind
Keeps (JumpIf test Constant) i behind = (i.jt < behind) × (i.jf < behind)
Keeps ReturnConstant i behind = Unit {0}
Keeps _ i behind = ⊥

pub record IsSound (plain : Bool) (i : Insn) (behind : ℕ) : Type 0 where
  pub operation : Operation
  pub is_operation : operation_of i.code ≡ Some operation
  pub keeps : Keeps operation i behind
  pub is_plain : IsTrue plain → IsPlainOperation operation i

-- each of them, with the others behind it
abbrev pub AreSound : Bool → List Insn → Type 0
AreSound plain [] = Unit {0}
AreSound plain (i ∷ is) = IsSound plain i (length is) × AreSound plain is
