-- How a piece of code ends, wherever it stands.
use Rattle.std.specs.Prelude.{ℕ, ◌≤◌, List, []}
use Rattle.scf_insn.specs.declared.insn.Insn.{Insn}
use Rattle.scf_machine.specs.Machine.{State, IsRunFrom}

-- a state of a compiled filter, which uses neither the index register nor scratch words
abbrev pub at : ℕ → ℕ → State
at index a = record { pc = index; a = a; x = 0; scratch = [] }

-- From its head, with `a` in the accumulator, the code ends in the answer within so many steps.
pub record EndsWithin (words : List ℕ) (code : List Insn) (a answer most : ℕ) : Type 0 where
  pub steps : ℕ
  pub run : IsRunFrom code words (at 0 a) answer steps
  pub few : steps ≤ most
