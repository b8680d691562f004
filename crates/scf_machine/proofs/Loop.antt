-- The loop of a run.
use Rattle.scf_machine.proofs.Common.{common_steps, ◌≡◌, ℕ, ◌+◌, ◌<◌, ◌≤◌, List, ◌∷◌, Option, None, Some, refl, get_or, arith, length, reverse, [], ◌++◌, slice_get, slice_get_read, bpf_maxinsns, Insn, Answer, Operation, Registers, State, Outcome, Ends, Faults, Fault, effect, step, IsRun, indices_of, IsValidList, IsFilter, Stands, StandFor, Agrees, IsAt, Follows}
use Rattle.scf_machine.proofs.Runs.{reached, step_is, step_edge, edge_forward, never_faults}
use Rattle.scf_machine.proofs.Runs.{run_length}

pub at_inside : (insns : List Insn) (words : List ℕ) (registers : Registers) (earlier : List State)
    → IsValidList insns → IsAt insns words registers earlier
    → (registers.pc < length insns) × (length earlier ≤ registers.pc) × (length insns ≤ bpf_maxinsns)
at_inside insns words registers earlier h1 h2 = grind (arith, reached)

-- what was read at an index stands there
pub read_here : (insns : List Insn) (p : ℕ) (i : Insn)
    → p < length insns → i ≡ get_or insns p i → slice_get insns p ≡ Some i
read_here insns p i inside e = slice_get_read insns (length insns) p i refl inside e

follows : (insns : List Insn) (words : List ℕ) (s : State) (o : Outcome) (result : Option Answer) (new : Registers)
    → step insns words s ≡ o → ((fault : Fault) → o ≡ Faults fault → ⊥) → Agrees o result new
    → Follows insns words s result new
follows insns words s o result new e fine agrees = grind arith

pub follows_at : (insns : List Insn) (words : List ℕ) (old new : Registers) (earlier : List State) (i : Insn)
    (operation : Operation) (result : Option Answer) → IsFilter insns → (at : IsAt insns words old earlier)
    → Stands insns old.pc i operation → Agrees (effect operation i words at.state) result new
    → Follows insns words at.state result new
follows_at insns words old new earlier i operation result h1 at h2 h3 = grind (arith, follows, never_faults, step_is)

pub at_next : (insns : List Insn) (words : List ℕ) (old new : Registers) (earlier : List State)
    → (at : IsAt insns words old earlier) → Follows insns words at.state None new
    → IsAt insns words new (at.state ∷ earlier) × (old.pc < new.pc)
at_next insns words old new earlier at h = grind (arith, edge_forward, step_edge)

-- the state answers: the run ends there
pub run_of : (insns : List Insn) (words : List ℕ) (registers : Registers) (earlier : List State) (answer steps : ℕ)
    → IsValidList insns → (at : IsAt insns words registers earlier) → step insns words at.state ≡ Ends answer
    → steps ≡ length earlier + 1 → IsRun insns words answer steps × (steps ≤ length insns)
run_of insns words registers earlier answer steps h1 at h2 h3 = grind (arith, run_length)

-- one index more
pub pc_added : (registers : Registers) (s : State) (earlier : List State) (indices more : List ℕ)
    → StandFor registers s → indices ≡ reverse (indices_of earlier) → more ≡ indices ++ registers.pc ∷ []
    → (more ≡ reverse (indices_of (s ∷ earlier))) × (length more ≡ length indices + 1)
pc_added registers s earlier indices more stand before pushed = grind (arith, common_steps)
