-- A list of instructions has one run over a record.
use Rattle.scf_machine.proofs.Common.{◌≡◌, ℕ, zero, suc, ◌≤◌, List, [], ◌∷◌, ap, sym, ◌∙◌, arith, length, cases_eq, Insn, State, Outcome, Goes, Ends, step, start, IsChain, IsRun}

abbrev next : List Insn → List ℕ → Outcome → Outcome
next insns words (Goes s) = step insns words s
next insns words outcome = outcome

-- what so many steps from the start lead to
abbrev after : List Insn → List ℕ → ℕ → Outcome
after insns words zero = Goes start
after insns words (suc k) = next insns words (after insns words k)

chain_after : (insns : List Insn) (words : List ℕ) (s : State) (xs : List State)
    → IsChain insns words start s xs → after insns words (length xs) ≡ Goes s
chain_after insns words s [] chain = ap Goes (sym chain)
chain_after insns words s (x ∷ xs) chain = ap (next insns words) (chain_after insns words x xs chain.1) ∙ chain.0

-- what answered stays
answered : (insns : List Insn) (words : List ℕ) (answer k l : ℕ) → k ≤ l
    → after insns words k ≡ Ends answer → after insns words l ≡ Ends answer
answered insns words answer k zero le e =
    let zero_steps : zero ≡ k = omega arith in ap (after insns words) zero_steps ∙ e
answered insns words answer k (suc l) le e =
    grind (arith, cases_eq k (suc l), answered insns words answer k l)

run_after : (insns : List Insn) (words : List ℕ) (answer steps : ℕ)
    → IsRun insns words answer steps → after insns words steps ≡ Ends answer
run_after insns words answer steps h = grind (arith, chain_after)

no_longer : (insns : List Insn) (words : List ℕ) (m n k l : ℕ)
    → IsRun insns words m k → IsRun insns words n l → k ≤ l → (m ≡ n) × (k ≡ l)
no_longer insns words m n k l a b le =
    let chain = chain_after insns words b.last b.earlier b.chain in
    let end = answered insns words m k l le (run_after insns words m k a) in
    let before = answered insns words m k (length b.earlier) in
    grind (arith, run_after insns words m k a, run_after insns words n l b)

-- the answer and the number of steps of a run are those of each run
pub run_once : (insns : List Insn) (words : List ℕ) (m n k l : ℕ)
    → IsRun insns words m k → IsRun insns words n l → (m ≡ n) × (k ≡ l)
run_once insns words m n k l a b = grind (arith, no_longer insns words m n k l a b, no_longer insns words n m l k b a)
