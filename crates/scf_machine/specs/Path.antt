-- The path of a run: the indices of the instructions that it executes.
use Rattle.std.specs.Prelude.{◌≡◌, ℕ, List, ◌∷◌, map, reverse}
use Rattle.scf_insn.specs.declared.insn.Insn.{Insn}
use Rattle.scf_machine.specs.Machine.{State, RunAnswers}

-- the indices of states
abbrev pub indices_of : List State → List ℕ
indices_of states = map (λ s. s.pc) states

-- The run over a record ends in this answer, and comes to instructions of these indices in this order.
pub record IsPathOf (insns : List Insn) (words : List ℕ) (answer : ℕ) (indices : List ℕ) : Type 0 where
  pub run : RunAnswers insns words answer
  pub in_order : indices ≡ reverse (indices_of (run.1.last ∷ run.1.earlier))
