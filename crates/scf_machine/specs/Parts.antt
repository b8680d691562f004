-- Parts of a list of instructions.
use Rattle.std.specs.Prelude.{◌≡◌, ℕ, ◌+◌, List, Some, slice_get}
use Rattle.scf_insn.specs.declared.insn.Insn.{Insn}
use Rattle.scf_machine.specs.Machine.{State}

-- the same instructions stand in the part and, that many instructions further on, in the whole
abbrev pub IsPart : List Insn → ℕ → List Insn → Type 0
IsPart part n whole =
    (pc : ℕ) (insn : Insn) → slice_get part pc ≡ Some insn → slice_get whole (n + pc) ≡ Some insn

-- the state, that many instructions further on
abbrev pub moved : ℕ → State → State
moved n s = record s { pc = n + s.pc }
