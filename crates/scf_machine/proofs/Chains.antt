-- Chains of steps from any state: two that meet are one, and a chain inside a part of a list is one of the whole.
use Rattle.scf_machine.proofs.Common.{◌≡◌, ℕ, ◌+◌, List, [], ◌∷◌, ◌++◌, ap, sym, subst, arith, length, map, length-append, common_steps, gets, slice_get_within, slice_get_read, Insn, State, Outcome, Goes, Ends, Faults, Fault, step, IsChain, IsRunFrom, IsPart, moved}
use Rattle.scf_machine.proofs.Moves.{moved_outcome, effect_moves}

-- two chains that meet are one
pub chains_join : (insns : List Insn) (words : List ℕ) (s t u : State) (xs ys : List State)
    → IsChain insns words s t xs → IsChain insns words t u ys → IsChain insns words s u (ys ++ xs)
chains_join insns words s t u xs [] a b = subst (λ (v : State). IsChain insns words s v xs) (sym b) a
chains_join insns words s t u xs (y ∷ ys) a b = (b.0, chains_join insns words s t y xs ys a b.1)

-- a run goes on behind a chain
pub run_behind : (insns : List Insn) (words : List ℕ) (s t : State) (xs : List State) (answer steps : ℕ)
    → IsChain insns words s t xs → IsRunFrom insns words t answer steps
    → IsRunFrom insns words s answer (length xs + steps)
run_behind insns words s t xs answer steps a r = grind (arith, common_steps, chains_join, length-append)

-- ---- a part of a list

-- a step inside a part is a step of the whole
step_moves : (whole part : List Insn) (n : ℕ) (words : List ℕ) (s : State) (o : Outcome)
    → IsPart part n whole → step part words s ≡ o → ((fault : Fault) → o ≡ Faults fault → ⊥)
    → step whole words (moved n s) ≡ moved_outcome n o
step_moves whole part n words s o is e fine = grind (arith, effect_moves, is s.pc)

pub answer_of_part : (whole part : List Insn) (n : ℕ) (words : List ℕ) (s : State) (answer : ℕ)
    → IsPart part n whole → step part words s ≡ Ends answer → step whole words (moved n s) ≡ Ends answer
answer_of_part whole part n words s answer is e = step_moves whole part n words s (Ends answer) is e (λ fault h. cc)

-- a chain inside a part is a chain of the whole
pub chain_of_part : (whole part : List Insn) (n : ℕ) (words : List ℕ) (s t : State) (xs : List State)
    → IsPart part n whole → IsChain part words s t xs → IsChain whole words (moved n s) (moved n t) (map (moved n) xs)
chain_of_part whole part n words s t [] is a = ap (moved n) a
chain_of_part whole part n words s t (x ∷ xs) is a =
    (step_moves whole part n words x (Goes t) is a.0 (λ fault h. cc), chain_of_part whole part n words s x xs is a.1)

-- what stands between a front and a back is a part, behind the front
pub part_between : (front part back : List Insn) → IsPart part (length front) (front ++ part ++ back)
part_between front part back = grind (arith, common_steps, gets, slice_get_read, slice_get_within)
