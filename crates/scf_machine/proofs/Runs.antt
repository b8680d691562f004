-- Chains of steps are paths, and end.
use Rattle.scf_machine.proofs.Common.{◌≡◌, ℕ, zero, suc, ◌+◌, ◌<◌, ◌≤◌, true, List, [], ◌∷◌, Some, refl, arith, length, slice_get, list_any, true_from_ne_false, Insn, Register, Operation, LoadScratch, State, Outcome, Goes, Ends, Faults, Fault, effect, step, IsChain, RunAnswers, RunsSafely, start, indices_of, IsFine, IsFineAt, IsValidList, GoesTo, Edge, Stands, stores_at, IsPath, KeepsScratchRule}
use Rattle.scf_machine.proofs.Moves.{IsStored, step_facts, effect_continues, effect_goes, effect_passes, step_stores}

pub step_is : (insns : List Insn) (words : List ℕ) (s : State) (i : Insn) (operation : Operation)
    → Stands insns s.pc i operation → step insns words s ≡ effect operation i words s
step_is insns words s i operation stands = grind arith

-- the instruction of an index is one
pub same_insn : (insns : List Insn) (p : ℕ) (i j : Insn)
    → slice_get insns p ≡ Some i → slice_get insns p ≡ Some j → i ≡ j
same_insn insns p i j a b = cc

pub fine_of : (insns : List Insn) (p : ℕ) (i : Insn) (operation : Operation)
    → IsFineAt insns p → Stands insns p i operation → IsFine (length insns) p i operation
fine_of insns p i operation fine stands = grind arith

-- ---- edges go forward, and stay inside
pub step_edge : (insns : List Insn) (words : List ℕ) (s t : State)
    → step insns words s ≡ Goes t → Edge insns s.pc t.pc
step_edge insns words s t e = grind (arith, effect_goes)

pub edge_forward : (insns : List Insn) (p t : ℕ) → Edge insns p t → p < t
edge_forward insns p t edge = grind arith

goes_inside : (len : ℕ) (operation : Operation) (i : Insn) (p t : ℕ)
    → IsFine len p i operation → GoesTo (Some operation) i p t → p + 1 < len → t < len
goes_inside len operation i p t fine goes next = grind arith

step_inside : (insns : List Insn) (words : List ℕ) (s t : State)
    → IsValidList insns → s.pc < length insns → step insns words s ≡ Goes t → t.pc < length insns
step_inside insns words s t valid inside e =
    let facts = step_facts insns words s t e in
    grind (
      arith,
      goes_inside,
      effect_continues,
      effect_goes,
      fine_of,
      valid.each s.pc inside,
      valid.last facts.insn facts.operation,
    )

-- ---- what is known of a state that a chain from the start comes to
pub record Reached (insns : List Insn) (s : State) (earlier : List State) : Type 0 where
  pub inside : s.pc < length insns
  pub slow : length earlier ≤ s.pc
  pub path : IsPath insns s.pc (indices_of earlier)
  pub stored : (n : ℕ) → list_any (stores_at insns n) (indices_of earlier) ≡ true → IsStored s n

reached_next : (insns : List Insn) (words : List ℕ) (s t : State) (earlier : List State)
    → IsValidList insns → Reached insns s earlier → step insns words s ≡ Goes t → Reached insns t (s ∷ earlier)
reached_next insns words s t earlier valid at e =
    let edge = step_edge insns words s t e in
    let inside = step_inside insns words s t valid at.inside e in
    grind (arith, step_stores, edge_forward)

pub reached : (insns : List Insn) (words : List ℕ) (s : State) (earlier : List State)
    → IsValidList insns → IsChain insns words start s earlier → Reached insns s earlier
reached insns words s [] valid chain = grind (arith, valid.some)
reached insns words s (before ∷ earlier) valid chain =
    reached_next insns words before s earlier valid (reached insns words before earlier valid chain.1) chain.0

-- each path to a load stores the word
stored_before : (insns : List Insn) (pc : ℕ) (i : Insn) (r : Register) (earlier : List ℕ) → KeepsScratchRule insns
    → Stands insns pc i (LoadScratch r) → IsPath insns pc earlier → list_any (stores_at insns i.k) earlier ≡ true
stored_before insns pc i r earlier rule stands path =
    true_from_ne_false _ (λ unset. rule pc i.k (record {
      insn = i;
      register = r;
      loads = stands;
      word = refl;
      earlier = earlier;
      path = path;
      unset = unset;
    }))

pub never_faults : (insns : List Insn) (words : List ℕ) → IsValidList insns → KeepsScratchRule insns → (s : State)
    (earlier : List State) (fault : Fault) → IsChain insns words start s earlier
    → step insns words s ≡ Faults fault → ⊥
never_faults insns words valid rule s earlier fault chain e =
    let at = reached insns words s earlier valid chain in
    let stored : (i : Insn) (r : Register) → Stands insns s.pc i (LoadScratch r) → IsStored s i.k =
    λ i r stands. at.stored i.k (stored_before insns s.pc i r (indices_of earlier) rule stands at.path) in
    grind (arith, effect_passes, valid.each s.pc at.inside, stored)

pub run_length : (insns : List Insn) (words : List ℕ) → IsValidList insns
    → (s : State) (earlier : List State) → IsChain insns words start s earlier → length earlier + 1 ≤ length insns
run_length insns words valid s earlier chain =
    let at = reached insns words s earlier valid chain in omega arith

-- ---- each run ends
ends_from : (insns : List Insn) (words : List ℕ) → IsValidList insns → KeepsScratchRule insns → (fuel : ℕ) (s : State)
    (earlier : List State) → IsChain insns words start s earlier → length insns ≤ length earlier + fuel
    → (o : Outcome) → step insns words s ≡ o → (answer : ℕ) × RunAnswers insns words answer
ends_from insns words valid rule fuel s earlier chain enough (Ends n) e =
    (n, (length earlier + 1, record { last = s; earlier = earlier; chain = chain; answers = e; count = refl }))
ends_from insns words valid rule fuel s earlier chain enough (Faults fault) e =
    absurd (never_faults insns words valid rule s earlier fault chain e)
ends_from insns words valid rule zero s earlier chain enough (Goes t) e =
    let most = run_length insns words valid s earlier chain in absurd (omega arith)
ends_from insns words valid rule (suc fuel) s earlier chain enough (Goes t) e =
    ends_from insns words valid rule fuel t (s ∷ earlier) (e, chain) (omega arith) (step insns words t) refl

pub runs_safely : (insns : List Insn) (words : List ℕ)
    → IsValidList insns → KeepsScratchRule insns → RunsSafely insns words
runs_safely insns words valid rule = record {
  ends = ends_from insns words valid rule (length insns) _ [] refl (omega arith) _ refl;
  bounded = run_length insns words valid;
  never_faults = never_faults insns words valid rule;
}
