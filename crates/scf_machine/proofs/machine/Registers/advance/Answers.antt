use Rattle.scf_machine.proofs.Common.{sym, arith, rules, ◌∙◌}
use Rattle.scf_machine.proofs.Loop.{at_inside, follows_at, read_here}
use Rattle.scf_machine.proofs.machine.Registers.advance.Goals as goal

pub index-insn-requires : goal.index-insn-requires
index-insn-requires c =
    let inside = at_inside _ _ _ _ c.program.invariant.valid (rw (← c.program.view_is) at c.requires.1) in search rules

pub unreachable-requires : goal.unreachable-requires
unreachable-requires c =
    let inside = at_inside _ _ _ _ c.program.invariant.valid (rw (← c.program.view_is) at c.requires.1) in
    grind (arith, c.program.invariant.valid.each _ inside.0, read_here _ _ _ inside.0 c.index-insn.ensures)

pub step-requires-clause-pc : goal.step-requires-clause-pc
step-requires-clause-pc c =
    let inside = at_inside _ _ _ _ c.program.invariant.valid (rw (← c.program.view_is) at c.requires.1) in omega arith

pub step-requires-clause-fine : goal.step-requires-clause-fine
step-requires-clause-fine c =
    let inside = at_inside _ _ _ _ c.program.invariant.valid (rw (← c.program.view_is) at c.requires.1) in
    grind (arith, c.program.invariant.valid.each _ inside.0, read_here _ _ _ inside.0 c.index-insn.ensures)

pub returns-clause-follows : goal.returns-clause-follows
returns-clause-follows c = rw (← c.program.view_is) (λ earlier at.
    let inside = at_inside c.program.inside.list.items _ _ _ c.program.invariant.valid at in
    follows_at c.program.inside.list.items _ _ _ earlier _ _ _ c.program.invariant at
    (record { here = read_here _ _ _ inside.0 c.index-insn.ensures; known = sym c.operation.ensures ∙ c.in-Some.is })
    (c.step.ensures at.state at.stand))
