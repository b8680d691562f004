use Rattle.scf_insn.proofs.Common.{err_from_is_err_and, insn_bytes}
use Rattle.scf_insn.proofs.Written.{each_fails}
use Rattle.scf_insn.proofs.encoding.write_program.Goals as goal

pub returns-in_err-write_whole : goal.returns-in_err-write_whole
returns-in_err-write_whole g c =
    let stopped = err_from_is_err_and c.from_residual.result c.from_residual.ensures.1 in
    rw stopped.1
    (each_fails insn_bytes c.args.insns.now c.loop-insn.insn-index _ c.loop-insn-test.true c.loop-insn.invariant
    (rw c.to_bytes.ensures at c.in_err-write_whole.ensures))
