-- The runs that come to the nodes of a filter's tree.
use Rattle.scf_compare.proofs.Common.{◌≡◌, ℕ, ◌==◌, ◌+◌, length, Bool, true, false, List, ◌∷◌, refl, ◌∙◌, arith, Insn, Operation, State, Outcome, Goes, Ends, Faults, step, effect, jumps_to, holds, operand_of, EndsAt, RunsSafely, Stands, FilterLeaf, FilterNode, ControlFlow, FallThrough, Jump, ConditionalJump, DivideByIndex, ReturnConstant, ReturnAccumulator, KnownRegisters, Step, Decision, control_flow_at, Tree, GoesOn, Describes, Decides, ComesTo, IsStepOf, common_steps}
use Rattle.scf_compare.proofs.ControlFlows.{Does, does}

-- A run over the words comes to an instruction, whose values are known.
module _ {insns : List Insn} {words : List ℕ} {index : ℕ} {i : Insn} {operation : Operation} {registers : KnownRegisters}
    (stands : Stands insns index i operation) (c : ComesTo insns index registers words) where
  step_here : step insns words c.state ≡ effect operation i words c.state
  step_here = grind arith

  comes_on : (t : State) (next : ℕ) (after : KnownRegisters) → effect operation i words c.state ≡ Goes t → t.pc ≡ next
      → Describes after words t → ComesTo insns next after words
  comes_on t next after e at d =
      record { state = t; earlier = c.state ∷ c.earlier; chain = (step_here ∙ e, c.chain); there = at; describes = d }

  answers : (n : ℕ) → effect operation i words c.state ≡ Ends n → EndsAt insns words index n
  answers n e = (
    (
      length c.earlier + 1,
      record {
        last = c.state;
        earlier = c.earlier;
        chain = c.chain;
        answers = step_here ∙ e;
        count = refl;
      },
    ),
    c.there,
  )

  comes_next : RunsSafely insns words → (o : Outcome) → effect operation i words c.state ≡ o → (next : ℕ)
      → Does (FallThrough next) i c.state o → (after : KnownRegisters)
      → ((t : State) → effect operation i words c.state ≡ Goes t → Describes after words t)
      → ComesTo insns next after words
  comes_next safe (Goes t) e next does after d = comes_on t next after e (does.1 t refl) (d t e)
  comes_next safe (Ends n) e next does after d = absurd (does.0 n refl)
  comes_next safe (Faults fault) e next does after d =
      absurd (safe.never_faults c.state c.earlier fault c.chain (step_here ∙ e))

  -- where the run goes on, with registers that describe the states after the instruction
  abbrev pub Leads : ControlFlow → Type 0
  Leads (FallThrough next) =
      (after : KnownRegisters) → ((t : State) → effect operation i words c.state ≡ Goes t → Describes after words t)
      → ComesTo insns next after words
  Leads (Jump target) = ComesTo insns target registers words
  Leads (ConditionalJump test operand if_true if_false) =
      let outcome = holds test c.state.a (operand_of operand i c.state) in
      (outcome ≡ true → ComesTo insns if_true registers words)
      × (outcome ≡ false → ComesTo insns if_false registers words)
  Leads (DivideByIndex next) =
      (after : KnownRegisters) → ((t : State) → effect operation i words c.state ≡ Goes t → Describes after words t)
      → ((c.state.x == 0) ≡ true → EndsAt insns words index 0)
      × ((c.state.x == 0) ≡ false → ComesTo insns next after words)
  Leads ReturnConstant = EndsAt insns words index i.k
  Leads ReturnAccumulator = EndsAt insns words index c.state.a

  leads_by : RunsSafely insns words → (control_flow : ControlFlow) → Does control_flow i c.state (effect operation i words c.state)
      → Leads control_flow
  leads_by safe (FallThrough next) does = comes_next safe (effect operation i words c.state) refl next does
  leads_by safe (Jump target) e =
      comes_on (jumps_to c.state target) target registers e refl (grind arith)
  leads_by safe (ConditionalJump test operand if_true if_false) e =
      let to = λ (next : ℕ) (on : effect operation i words c.state ≡ Goes (jumps_to c.state next)).
      comes_on _ next registers on refl (grind arith) in
      (λ h. to if_true (rw h at e), λ h. to if_false (rw h at e))
  leads_by safe (DivideByIndex next) (there, e) = λ after d. (
    λ zero. answers 0 (rw zero at e),
    λ some. let on = rw some at e in comes_on _ next after on there (d _ on),
  )
  leads_by safe ReturnConstant e = answers i.k e
  leads_by safe ReturnAccumulator e = answers c.state.a e

  pub leads : RunsSafely insns words → (control_flow : ControlFlow) → control_flow_at operation i index ≡ control_flow → Leads control_flow
  leads safe control_flow f =
      grind (arith, common_steps, leads_by, does)

-- where words go on from a test
pub step_leads : (tree : Tree FilterNode) (tells : FilterLeaf → List ℕ → Type 0) (words : List ℕ) (decision : Decision)
    (if_true if_false : FilterNode) (step : Step FilterNode FilterLeaf) (test : Bool)
    → IsStepOf decision if_true if_false step → Decides decision words test → (test ≡ true → tree.reaches if_true words)
    → (test ≡ false → tree.reaches if_false words) → GoesOn tree tells step words
step_leads tree tells words decision if_true if_false step test e d ht hf = grind arith

-- a run that comes to an index does so with registers that are known by as much
pub comes_noted : {insns : List Insn} {words : List ℕ} {index : ℕ} {old new : KnownRegisters}
    → ((s : State) → Describes old words s → Describes new words s) → ComesTo insns index old words
    → ComesTo insns index new words
comes_noted same comes = record {
  state = comes.state;
  earlier = comes.earlier;
  chain = comes.chain;
  there = comes.there;
  describes = same comes.state comes.describes;
}
