-- The successors of an instruction follow the runs that come to it, and their sizes are within its size.
use Rattle.scf_compare.proofs.Common.{◌≡◌, ℕ, Bool, true, false, inl, inr, refl, subst, arith, IfSome_then, Answer, EndsAt, filter_tree}
use Rattle.scf_compare.proofs.ControlFlows.{masked_at}
use Rattle.scf_compare.proofs.MaskedSides.{by_decision, carried, costs_by, proper_by}
use Rattle.scf_compare.proofs.Successors.{comes_noted, leads, step_leads}
use Rattle.scf_compare.specs.internal.Filters.{ComesTo}
use Rattle.scf_compare.proofs.filter.step_in_filter.Goals as goal

-- a test with one successor leads to it
one_way : (holds : Bool) (comes_to : ℕ → Type 0) (first second : ℕ) → first ≡ second
    → (holds ≡ true → comes_to first) → (holds ≡ false → comes_to second) → comes_to first
one_way true comes_to first second same met unmet = met refl
one_way false comes_to first second same met unmet = rw same (unmet refl)

pub returns-in-FallThrough : goal.returns-in-FallThrough
returns-in-FallThrough g c =
    let here = rw (c.insns.ensures.same, c.in-FallThrough.is) at c.at-operation.ensures in
    rw c.in-At.is (record {
      proper = (here.inside.1, c.apply.ensures.values);
      leads = λ words w r.
          leads here.stands r (c.insns.ensures.safe words) _ here.control_flow _
          (λ t. c.apply.ensures.describes words r.state t w.0 w.1 r.describes);
      costs = omega (arith, here.size);
      plain = λ masks plain.
          elim (rw here.control_flow at (masked_at masks plain.0 here.stands)) [
            | inl load ↦ (plain.0, c.apply.ensures.loaded load masks _)
            | inr under ↦ (plain.0, rw under.2 (c.apply.ensures.masked under.0 masks _ under.1 plain.1))
          ];
    })

pub returns-in-Jump : goal.returns-in-Jump
returns-in-Jump g c =
    let here = rw (c.insns.ensures.same, c.in-Jump.is) at c.at-operation.ensures in
    let node = rw c.in-At.is at c.requires in
    rw c.in-At.is (record {
      proper = (here.inside.1, node.1);
      leads = λ words w r. leads here.stands r (c.insns.ensures.safe words) _ here.control_flow;
      costs = omega (arith, here.size);
      plain = λ masks plain.
          let goes = rw here.control_flow at (masked_at masks plain.0 here.stands) in
          (plain.0, carried masks _ _ _ goes plain.1);
    })

pub returns-then-if_true-if_false : goal.returns-then-if_true-if_false
returns-then-if_true-if_false g c =
    let here = rw (c.insns.ensures.same, c.in-ConditionalJump.is) at c.at-operation.ensures in
    let node = rw c.in-At.is at c.requires in
    rw c.in-At.is (record {
      proper = (here.inside.1, node.1);
      leads = λ words w r.
          let on = leads here.stands r (c.insns.ensures.safe words) _ here.control_flow in
          one_way _ (λ index. ComesTo c.args.program.now index c.args.registers.now words) _ _
          c.if-if_true-if_false.true on.0 on.1;
      costs = omega (arith, here.size);
      plain = λ masks plain.
          let flow = rw here.control_flow at (masked_at masks plain.0 here.stands) in
          (plain.0, carried masks _ _ _ flow.2 plain.1);
    })

pub returns-else-if_true-if_false : goal.returns-else-if_true-if_false
returns-else-if_true-if_false g c =
    let here = rw (c.insns.ensures.same, c.in-ConditionalJump.is) at c.at-operation.ensures in
    let values = c.note_open.ensures.values in
    rw c.in-At.is (record {
      proper = proper_by (filter_tree c.args.program.now c.note_open.new.self) _ c.decide-decision.result _ _
          c.step_by.result c.step_by.ensures c.decide-decision.ensures.asks (here.inside.1, values) (here.inside.3, values);
      leads = λ words w r.
          let on = leads here.stands r (c.insns.ensures.safe words) _ here.control_flow in
          let operand = c.operand.ensures.stands words r.state r.describes in
          let decides = c.decide-decision.ensures.decides words r.state.a _ w.0 w.1 r.describes.a operand in
          let noted = c.note_open.ensures.describes words in
          step_leads (filter_tree c.args.program.now c.note_open.new.self) _ words c.decide-decision.result _ _
          c.step_by.result _ c.step_by.ensures decides (λ holds. comes_noted noted (on.0 holds))
          (λ holds. comes_noted noted (on.1 holds));
      costs = costs_by (filter_tree c.args.program.now c.note_open.new.self) c.decide-decision.result _ _
          c.step_by.result _ c.step_by.ensures (omega (arith, here.size));
      plain = λ masks plain.
          let flow = rw here.control_flow at (masked_at masks plain.0 here.stands) in
          let decided =
          c.decide-decision.ensures.plain masks c.at-operation.result.0.k _ plain.1
          (c.operand.ensures.constant flow.0) flow.1 in
          let accumulator = rw (← c.note_open.ensures.accumulator) at plain.1 in
          by_decision (filter_tree c.args.program.now c.note_open.new.self) _ masks c.decide-decision.result _ _
          c.step_by.result c.step_by.ensures decided (plain.0, carried masks _ _ _ flow.2 accumulator)
          (plain.0, carried masks _ _ _ flow.3 accumulator);
    })

pub returns-in-DivideByIndex : goal.returns-in-DivideByIndex
returns-in-DivideByIndex g c =
    let here = rw (c.insns.ensures.same, c.in-DivideByIndex.is) at c.at-operation.ensures in
    rw c.in-At.is (record {
      proper = proper_by (filter_tree c.args.program.now c.apply-in-DivideByIndex.new.self) _
          c.decide-decision-in-DivideByIndex.result _ _ c.step_by-in-DivideByIndex.result
          c.step_by-in-DivideByIndex.ensures c.decide-decision-in-DivideByIndex.ensures.asks
          (record { insn = _; operation = _; stands = here.stands; ends = rw here.control_flow refl })
          (here.inside.1, c.apply-in-DivideByIndex.ensures.values);
      leads = λ words w r.
          let on =
          leads here.stands r (c.insns.ensures.safe words) _ here.control_flow _
          (λ t. c.apply-in-DivideByIndex.ensures.describes words r.state t w.0 w.1
          (c.note_open-in-DivideByIndex.ensures.describes words r.state r.describes)) in
          step_leads (filter_tree c.args.program.now c.apply-in-DivideByIndex.new.self) _ words
          c.decide-decision-in-DivideByIndex.result _ _ c.step_by-in-DivideByIndex.result _
          c.step_by-in-DivideByIndex.ensures
          (c.decide-decision-in-DivideByIndex.ensures.decides words r.state.x 0 w.0 w.1 r.describes.x refl) on.0 on.1;
      costs = costs_by (filter_tree c.args.program.now c.apply-in-DivideByIndex.new.self)
          c.decide-decision-in-DivideByIndex.result _ _ c.step_by-in-DivideByIndex.result _
          c.step_by-in-DivideByIndex.ensures (omega (arith, here.size));
      plain = λ masks plain.
          absurd (rw here.control_flow at (masked_at masks plain.0 here.stands));
    })

pub returns-in-ReturnConstant : goal.returns-in-ReturnConstant
returns-in-ReturnConstant g c =
    let here = rw (c.insns.ensures.same, c.in-ReturnConstant.is) at c.at-operation.ensures in
    rw c.in-At.is (record {
      proper = record { insn = _; operation = _; stands = here.stands; ends = rw here.control_flow refl };
      leads = λ words w r. leads here.stands r (c.insns.ensures.safe words) _ here.control_flow;
      costs = omega (arith, here.size);
      plain = λ masks plain. refl;
    })

pub returns-in-ReturnAccumulator : goal.returns-in-ReturnAccumulator
returns-in-ReturnAccumulator g c =
    let here = rw (c.insns.ensures.same, c.in-ReturnAccumulator.is) at c.at-operation.ensures in
    rw c.in-At.is (record {
      proper = record { insn = _; operation = _; stands = here.stands; ends = rw here.control_flow tt };
      leads = λ words w r.
          let answered = leads here.stands r (c.insns.ensures.safe words) _ here.control_flow in
          IfSome_then c.answer.result (c.answer.ensures words r.state w.1 r.describes)
          (λ (answer : Answer) same. subst (EndsAt c.args.program.now words c.in-At.index) same answered);
      costs = omega (arith, here.size);
      plain = λ masks plain.
          absurd (rw here.control_flow at (masked_at masks plain.0 here.stands));
    })
