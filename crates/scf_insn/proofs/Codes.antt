-- Codes and operations.
use Rattle.scf_insn.proofs.Common.{◌≡◌, ℕ, ◌∙◌, eqb, inl, inr, List, [], ◌∷◌, Some, refl, sym, ap, cases_eq, eq-eqb, ne_eqb, A, X, Operand, Constant, Index, Arithmetic, Add, Sub, Mul, Div, Or, And, Lsh, Rsh, Xor, Test, Equal, Greater, GreaterOrEqual, CommonBit, Operation, LoadWord, LoadLength, LoadConstant, LoadScratch, StoreScratch, Compute, Negate, Jump, JumpIf, ReturnConstant, ReturnAccumulator, CopyToIndex, CopyToAccumulator, code_of, operations, operation_of}
use Rattle.std.specs.List.{find}

computes : (arithmetic : Arithmetic) (operand : Operand)
    → operation_of (code_of (Compute arithmetic operand)) ≡ Some (Compute arithmetic operand)
unfolding operation_of
computes Add Constant = refl
computes Add Index = refl
computes Sub Constant = refl
computes Sub Index = refl
computes Mul Constant = refl
computes Mul Index = refl
computes Div Constant = refl
computes Div Index = refl
computes Or Constant = refl
computes Or Index = refl
computes And Constant = refl
computes And Index = refl
computes Lsh Constant = refl
computes Lsh Index = refl
computes Rsh Constant = refl
computes Rsh Index = refl
computes Xor Constant = refl
computes Xor Index = refl

jumps : (test : Test) (operand : Operand) → operation_of (code_of (JumpIf test operand)) ≡ Some (JumpIf test operand)
unfolding operation_of
jumps Equal Constant = refl
jumps Equal Index = refl
jumps Greater Constant = refl
jumps Greater Index = refl
jumps GreaterOrEqual Constant = refl
jumps GreaterOrEqual Index = refl
jumps CommonBit Constant = refl
jumps CommonBit Index = refl

-- the code of an operation asks for that operation
pub asks_for : (operation : Operation) → operation_of (code_of operation) ≡ Some operation
unfolding operation_of
asks_for LoadWord = refl
asks_for (LoadLength A) = refl
asks_for (LoadLength X) = refl
asks_for (LoadConstant A) = refl
asks_for (LoadConstant X) = refl
asks_for (LoadScratch A) = refl
asks_for (LoadScratch X) = refl
asks_for (StoreScratch A) = refl
asks_for (StoreScratch X) = refl
asks_for (Compute arithmetic operand) = computes arithmetic operand
asks_for Negate = refl
asks_for Jump = refl
asks_for (JumpIf test operand) = jumps test operand
asks_for ReturnConstant = refl
asks_for ReturnAccumulator = refl
asks_for CopyToIndex = refl
asks_for CopyToAccumulator = refl

found_code : (code : ℕ) (operation : Operation) (all : List Operation)
    → find (λ o. eqb (code_of o) code) all ≡ Some operation → code_of operation ≡ code
found_code code operation [] e = absurd cc
found_code code operation (first ∷ others) e = elim (cases_eq (code_of first) code) [
  | inl is ↦
      let same : Some first ≡ Some operation = rw (eq-eqb (code_of first) code is) at e in
      let same : first ≡ operation = cc in
      ap code_of (sym same) ∙ is
  | inr differs ↦ found_code code operation others (rw (ne_eqb (code_of first) code differs) at e)
]

-- only the code of an operation asks for it
pub only_code : (code : ℕ) (operation : Operation) → operation_of code ≡ Some operation → code_of operation ≡ code
unfolding operation_of
only_code code operation e = found_code code operation operations e
