-- What one step of the machine does to a state, and when it doesn't fault.
use Rattle.scf_machine.proofs.Common.{◌≡◌, ◌≢◌, ℕ, ◌⊎◌, true, List, None, Some, arith, nat_tests, Insn, Register, Operation, LoadScratch, State, word_at, Outcome, Goes, Ends, Faults, Fault, effect, step, moved, IsFine, IsReturn, GoesTo, Stands, stores_word, stores_at}

-- a scratch word is stored
abbrev pub IsStored : State → ℕ → Type 0
IsStored s n = word_at s.scratch n ≢ None

-- ---- an operation

-- a return has no next state
pub effect_continues : (operation : Operation) (i : Insn) (words : List ℕ) (s t : State)
    → effect operation i words s ≡ Goes t → IsReturn operation → ⊥
effect_continues operation i words s t e return = grind arith

-- the next state is at the end of an edge
pub effect_goes : (operation : Operation) (i : Insn) (words : List ℕ) (s t : State)
    → effect operation i words s ≡ Goes t → GoesTo (Some operation) i s.pc t.pc
effect_goes operation i words s t e = grind arith

-- the next state has the words that were stored and the one that the operation stores
pub effect_stores : (operation : Operation) (i : Insn) (words : List ℕ) (s t : State) (n : ℕ)
    → effect operation i words s ≡ Goes t → (stores_word operation i.k n ≡ true) ⊎ IsStored s n → IsStored t n
effect_stores operation i words s t n e stored = grind arith

pub effect_passes : (len : ℕ) (operation : Operation) (i : Insn) (words : List ℕ) (s : State) (fault : Fault)
    → IsFine len s.pc i operation → ((r : Register) → operation ≡ LoadScratch r → IsStored s i.k)
    → effect operation i words s ≡ Faults fault → ⊥
effect_passes len operation i words s fault fine stored e = grind (arith, nat_tests)

abbrev pub moved_outcome : ℕ → Outcome → Outcome
moved_outcome n (Goes s) = Goes (moved n s)
moved_outcome n (Ends answer) = Ends answer
moved_outcome n (Faults fault) = Faults fault

-- what an instruction does doesn't hang on where it stands
pub effect_moves : (n : ℕ) (operation : Operation) (i : Insn) (words : List ℕ) (s : State)
    → effect operation i words (moved n s) ≡ moved_outcome n (effect operation i words s)
effect_moves n operation i words s = grind arith

-- ---- a step

-- The step to a next state is that of an operation.
pub record StepFacts (insns : List Insn) (words : List ℕ) (s t : State) : Type 0 where
  pub insn : Insn
  pub operation : Operation
  pub stands : Stands insns s.pc insn operation
  pub goes : effect operation insn words s ≡ Goes t

pub step_facts : (insns : List Insn) (words : List ℕ) (s t : State)
    → step insns words s ≡ Goes t → StepFacts insns words s t
step_facts insns words s t e = grind arith

pub step_stores : (insns : List Insn) (words : List ℕ) (s t : State) (n : ℕ) → step insns words s ≡ Goes t
    → (stores_at insns n s.pc ≡ true) ⊎ IsStored s n → IsStored t n
unfolding stores_at
step_stores insns words s t n e stored = grind (arith, effect_stores)
