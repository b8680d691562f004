use Rattle.scf_text.proofs.Common.{[], subst, sym, List, AllByRecursion, drop_all, IsInsn, Insn, SaysEach, indices_view, parsed_insns_view}
use Rattle.std.proofs.lemmas.List.{append-nil}
use Rattle.scf_text.proofs.assembler.resolve_all.Goals as goal

pub returns-clause-tells : goal.returns-clause-tells
returns-clause-tells c =
    let lines = c.args.symbols.now.parsed_insns.now in
    let symbols = indices_view c.args.symbols.now in
    let insns = c.loop-at.insns.items in
    let none = drop_all c.loop-at.at lines c.loop-at-test.false in
    let faults = rw none at c.loop-at.invariant.faults in
    let says = rw none at c.loop-at.invariant.says in (
      sym faults,
      subst (λ (is : List Insn). SaysEach symbols 0 (parsed_insns_view lines) is) (append-nil insns)
          (says [] tt),
      subst (λ (is : List Insn). AllByRecursion IsInsn is) (append-nil insns)
          (c.loop-at.invariant.fields [] tt),
    )
