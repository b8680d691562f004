use Rattle.scf_machine.proofs.Common.{arith, rules, common_steps, All-push, IsFilter}
use Rattle.scf_machine.proofs.stack.FilterStack.push.Goals as goal

pub invariant_of-self : goal.invariant_of-self
invariant_of-self c =
    let insns = c.insns-len.ensures in
    let filter : IsFilter c.args.program =
    record { widths = insns.widths; valid = insns.valid; stored = insns.stored } in
    let each = All-push IsFilter c.self.inside.filters.items c.args.program c.self.invariant.2 filter in
    (rw (insns.same, c.in-Ok.ensures.items) (grind (arith, common_steps)), search rules, rw c.in-Ok.ensures.items each)
