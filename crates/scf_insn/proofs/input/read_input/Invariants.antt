use Rattle.scf_insn.proofs.Common.{◌≡◌, ◌≤◌, ◌-◌, vec_len, Consumes}
use Rattle.scf_insn.proofs.input.read_input.Given as goal

abbrev pub invariant-chunks : goal.invariant-chunks
invariant-chunks g l = record {
  known : Consumes (g.S.Source.remaining l.fn.source) (g.S.Source.remaining l.source) l.bytes.items;
  few : vec_len l.bytes ≤ l.limit;
  honest : g.S.Source.failures l.source ≡ g.S.Source.failures l.fn.source;
}

abbrev pub decreases-chunks : goal.decreases-chunks
decreases-chunks g l = l.limit - vec_len l.bytes
