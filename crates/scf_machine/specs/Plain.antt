-- Plain programs: they load words of the record, compare them with constants and with simple masks, jump, and return
-- constants.
use Rattle.std.specs.Prelude.{◌≡◌, List, All, Some}
use Rattle.scf_insn.specs.declared.insn.Insn.{Insn}
use Rattle.scf_insn.specs.declared.operation.Operand.TheVariants.{Constant}
use Rattle.scf_insn.specs.declared.operation.Test.TheVariants.{CommonBit}
use Rattle.scf_insn.specs.declared.operation.Operation.{Operation}
use Rattle.scf_insn.specs.declared.operation.Operation.TheVariants.{LoadWord, Jump, JumpIf, ReturnConstant}
use Rattle.scf_insn.specs.Codes.{operation_of}
use Rattle.scf_insn.specs.SimpleMask.{IsSimpleMask}

abbrev pub IsPlainOperation : Operation → Insn → Type 0
IsPlainOperation LoadWord i = Unit {0}
IsPlainOperation Jump i = Unit {0}
IsPlainOperation (JumpIf CommonBit Constant) i = IsSimpleMask i.k
IsPlainOperation (JumpIf test Constant) i = Unit {0}
IsPlainOperation ReturnConstant i = Unit {0}
IsPlainOperation _ i = ⊥

pub record IsPlainInsn (i : Insn) : Type 0 where
  pub operation : Operation
  pub known : operation_of i.code ≡ Some operation
  pub plain : IsPlainOperation operation i

abbrev pub IsPlainProgram : List Insn → Type 0
IsPlainProgram insns = All IsPlainInsn insns
