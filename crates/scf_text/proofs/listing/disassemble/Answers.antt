use Rattle.scf_text.proofs.Common.{err_from_is_err_and, line_of, each_fails}
use Rattle.scf_text.proofs.listing.disassemble.Goals as goal

pub returns-in_err-write_line : goal.returns-in_err-write_line
returns-in_err-write_line g c =
    let p = err_from_is_err_and c.from_residual.result c.from_residual.ensures.1 in
    rw p.1 (each_fails line_of c.args.insns.now c.loop-insn.insn-index _ c.loop-insn-test.true c.loop-insn.invariant
    c.in_err-write_line.ensures)
