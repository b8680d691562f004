-- What follows from how an instruction goes on.
use Rattle.scf_compare.proofs.Common.{Bool, true, ◌⊎◌, Constant, ◌≡◌, ℕ, zero, suc, ◌+◌, ◌-◌, ◌<◌, ◌/◌, ◌==◌, List, [], ◌∷◌, Option, None, Some, length, drop, slice_index_or, if◌then◌else◌, refl, sym, ap, subst, ◌∙◌, arith, zero-add, slice_get, slice_get_within, eq-or-lt_of_le, Insn, A, Operation, LoadWord, operation_of, bpf_memwords, State, Outcome, Goes, Ends, sets, jumps_to, holds, operand_of, effect, Stands, IsFine, IsValidList, IsReturn, fine_of, same_insn, ControlFlow, FallThrough, Jump, ConditionalJump, DivideByIndex, ReturnConstant, ReturnAccumulator, size_of_insn, tree_sizes, tree_size, control_flow_at, UsesScratch, IsInside, size_of_flow, slice_get-get_or}
use Rattle.scf_insn.specs.declared.operation.Arithmetic.TheVariants.{And}
use Rattle.scf_insn.specs.declared.operation.Operation.TheVariants.{Compute}
use Rattle.scf_compare.specs.Masked.{GoesUnder, IsMaskOf, IsMaskedOperation, IsMaskedProgram, IsMaskedTest}

-- ---- indices inside the program

module _ (insns : List Insn) (index : ℕ) (i : Insn) (operation : Operation) (valid : IsValidList insns)
    (stands : Stands insns index i operation) where
  -- an instruction that isn't a return isn't the last one
  not_last : (IsReturn operation → ⊥) → index + 1 < length insns
  not_last goes_on = grind (arith, eq-or-lt_of_le, slice_get_within)

  fine_at : IsFine (length insns) index i operation
  fine_at = grind (arith, fine_of, slice_get_within)

  pub inside_at : IsInside index (length insns) (control_flow_at operation i index)
  inside_at = grind (arith, fine_at, not_last)

  pub load_fits : operation ≡ LoadWord → i.k < 64
  load_fits e = grind (arith, fine_at)

  pub scratch_fits : UsesScratch operation → i.k < bpf_memwords
  scratch_fits uses = grind (arith, fine_at)

-- the code of each instruction is known
pub has_operation : (insns : List Insn) (index : ℕ) (i : Insn) → IsValidList insns → slice_get insns index ≡ Some i
    → operation_of i.code ≡ None → ⊥
has_operation insns index i valid here none =
    let at = valid.each index (slice_get_within insns index i here) in
    grind (arith, same_insn insns index at.insn i at.stands.here here, at.stands.known)

-- what an instruction that goes on so does to a state
abbrev pub Does : ControlFlow → Insn → State → Outcome → Type 0
Does (FallThrough next) i s o = ((n : ℕ) → o ≡ Ends n → ⊥) × ((t : State) → o ≡ Goes t → t.pc ≡ next)
Does (Jump target) i s o = o ≡ Goes (jumps_to s target)
Does (ConditionalJump test operand if_true if_false) i s o =
    o ≡ Goes (jumps_to s (if holds test s.a (operand_of operand i s) then if_true else if_false))
Does (DivideByIndex next) i s o =
    (s.pc + 1 ≡ next) × (o ≡ (if s.x == 0 then Ends 0 else Goes (sets A s (s.a / s.x))))
Does ReturnConstant i s o = o ≡ Ends i.k
Does ReturnAccumulator i s o = o ≡ Ends s.a

pub does : (operation : Operation) (i : Insn) (words : List ℕ) (s : State)
    → Does (control_flow_at operation i s.pc) i s (effect operation i words s)
does operation i words s = grind arith

-- ---- sizes

size_here : (insns : List Insn) (index : ℕ) (i : Insn) → slice_get insns index ≡ Some i
    → tree_size insns index ≡ size_of_insn (operation_of i.code) i (tree_sizes (drop (suc index) insns))
unfolding tree_sizes
size_here [] index i e = absurd (cc)
size_here (y ∷ insns) zero i e = grind arith
size_here (y ∷ insns) (suc index) i e = size_here insns index i e

size_later : (insns : List Insn) (index k : ℕ)
    → slice_index_or (tree_sizes (drop index insns)) k 1 ≡ tree_size insns (index + k)
unfolding tree_sizes
size_later insns zero k = ap (tree_size insns) (sym (zero-add k))
size_later [] (suc index) k = refl
size_later (y ∷ insns) (suc index) k =
    let more : suc (index + k) ≡ suc index + k = omega arith in
    size_later insns index k ∙ ap (tree_size (y ∷ insns)) more

-- the size at an index, by how its instruction goes on
pub size_by_flow : (insns : List Insn) (index : ℕ) (i : Insn) (operation : Operation) → Stands insns index i operation
    → tree_size insns index ≡ size_of_flow (control_flow_at operation i index) (tree_size insns)
size_by_flow insns index i operation stands =
    rw (size_here insns index i stands.here, stands.known) (grind (arith, size_later insns (suc index)))

-- ---- masked programs

-- a masked instruction loads a word, takes it under a mask, tests it against a constant, divides nothing and returns no
-- register
abbrev pub IsMaskedFlow : ℕ → (ℕ → Bool) → ℕ → Operation → Insn → ControlFlow → Type 0
IsMaskedFlow masks under at operation i (FallThrough next) =
    (operation ≡ LoadWord) ⊎ ((operation ≡ Compute And Constant) × IsMaskOf masks i.k × (under next ≡ true))
IsMaskedFlow masks under at operation i (Jump target) = GoesUnder under at target
IsMaskedFlow masks under at operation i (ConditionalJump test operand if_true if_false) =
    (operand ≡ Constant) × IsMaskedTest masks (under at) test i.k × GoesUnder under at if_true × GoesUnder under at if_false
IsMaskedFlow masks under at operation i (DivideByIndex next) = ⊥
IsMaskedFlow masks under at operation i ReturnConstant = Unit {0}
IsMaskedFlow masks under at operation i ReturnAccumulator = ⊥

-- so an instruction of a masked program goes on
masked_flow : (masks : ℕ) (under : ℕ → Bool) (at : ℕ) (operation : Operation) (i : Insn)
    → IsMaskedOperation masks under at operation i
    → IsMaskedFlow masks under at operation i (control_flow_at operation i at)
masked_flow masks under at operation i is = grind arith

pub masked_at : {insns : List Insn} {at : ℕ} {i : Insn} {operation : Operation} (masks : ℕ)
    (program : IsMaskedProgram masks insns) → Stands insns at i operation
    → IsMaskedFlow masks program.under at operation i (control_flow_at operation i at)
masked_at {at = at} {i = i} {operation = operation} masks program stands =
    masked_flow masks program.under at operation i (program.each at i operation stands)

-- the instruction that is read has an operation, and leads to indices inside the program
pub ruleset reads = (has_operation, slice_get-get_or, inside_at, size_by_flow)
