-- The instructions that are passed lead to where the runs that come to them go on.
use Rattle.scf_compare.proofs.Common.{arith, false, rules, true}
use Rattle.scf_compare.proofs.ControlFlows.{masked_at}
use Rattle.scf_compare.proofs.KnownTests.{known_test}
use Rattle.scf_compare.proofs.MaskedSides.{carried}
use Rattle.scf_compare.proofs.Successors.{leads}
use Rattle.scf_compare.proofs.filter.pass_at.Goals as goal

pub returns-in-Jump-clause-next : goal.returns-in-Jump-clause-next
returns-in-Jump-clause-next g c =
    let here = rw (c.insns.ensures.same, c.in-Jump.is) at c.at-operation.ensures in
    record {
      proper = search rules;
      leads = λ words w r. leads here.stands r (c.insns.ensures.safe words) _ here.control_flow;
      costs = omega (arith, here.size);
      plain = λ masks plain.
          let goes = rw here.control_flow at (masked_at masks plain.0 here.stands) in
          (plain.0, carried masks _ _ _ goes plain.1);
    }

pub returns-in-LoadWord-clause-next : goal.returns-in-LoadWord-clause-next
returns-in-LoadWord-clause-next g c =
    let here = rw (c.insns.ensures.same, c.in-FallThrough.is) at c.at-operation.ensures in
    record {
      proper = (here.inside.1, c.apply.ensures.values);
      leads = λ words w r.
          leads here.stands r (c.insns.ensures.safe words) _ here.control_flow _
          (λ t. c.apply.ensures.describes words r.state t w.0 w.1 r.describes);
      costs = omega (arith, here.size);
      plain = λ masks plain. (plain.0, c.apply.ensures.loaded c.in-LoadWord.is masks _);
    }

pub returns-then-holds_of-clause-next : goal.returns-then-holds_of-clause-next
returns-then-holds_of-clause-next g c =
    let here = rw (c.insns.ensures.same, c.in-ConditionalJump.is, c.in-Constant.is) at c.at-operation.ensures in
    known_test c.insns.ensures.valid c.insns.ensures.safe here.stands here.control_flow c.requires.node.1
    (λ words x w. c.requires.number words x w.0 w.1) true (grind (arith, c.holds_of.ensures, c.if-holds_of.true))

pub returns-else-holds_of-clause-next : goal.returns-else-holds_of-clause-next
returns-else-holds_of-clause-next g c =
    let here = rw (c.insns.ensures.same, c.in-ConditionalJump.is, c.in-Constant.is) at c.at-operation.ensures in
    known_test c.insns.ensures.valid c.insns.ensures.safe here.stands here.control_flow c.requires.node.1
    (λ words x w. c.requires.number words x w.0 w.1) false (grind (arith, c.holds_of.ensures, c.if-holds_of.false))
