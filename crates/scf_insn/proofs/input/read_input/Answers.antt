use Rattle.scf_insn.proofs.Common.{common_steps, ◌+◌, take, arith, length-take, read_len}
use Rattle.scf_insn.proofs.Taken.{gives_bounded, gives_some}
use Rattle.scf_insn.proofs.input.read_input.Goals as goal

pub returns-then-count-limit-clause-past : goal.returns-then-count-limit-clause-past
returns-then-count-limit-clause-past g c = λ _.
    let remaining = g.S.Source.remaining in
    gives_bounded (remaining c.args.source.now) (remaining c.chunks.source) (remaining c.read.new.self)
    c.chunks.bytes.items (take c.in-Ok.count c.read.new.buffer) (c.args.limit + read_len)
    c.chunks.invariant.known c.in-Ok.ensures.bytes.0 (simp length-take (omega arith))

pub returns-then-is_err-clause-wanted : goal.returns-then-is_err-clause-wanted
returns-then-is_err-clause-wanted g c = grind (arith, common_steps, gives_some)

pub returns-then-is_err-clause-early : goal.returns-then-is_err-clause-early
returns-then-is_err-clause-early g c = λ _.
    let remaining = g.S.Source.remaining in
    gives_bounded (remaining c.args.source.now) (remaining c.chunks.source) (remaining c.read.new.self)
    c.chunks.bytes.items (take c.in-Ok.count c.read.new.buffer) c.args.limit c.chunks.invariant.known
    c.in-Ok.ensures.bytes.0 (simp length-take (omega arith))
