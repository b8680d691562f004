-- One step of the running machine.
use Rattle.scf_machine.proofs.Common.{◌≡◌, None, arith, Insn, A, Index, Arithmetic, Div, Lsh, Rsh, Registers, State, sets, computation, value_computed, StandFor, Agrees}

pub computes_by_index : (arithmetic : Arithmetic) (i : Insn) (s : State) (new : Registers)
    → (arithmetic ≡ Div → ⊥) → (arithmetic ≡ Lsh → ⊥) → (arithmetic ≡ Rsh → ⊥)
    → StandFor new (sets A s (value_computed arithmetic s.a s.x)) → Agrees (computation arithmetic Index i s) None new
computes_by_index arithmetic i s new div lsh rsh h = grind arith
