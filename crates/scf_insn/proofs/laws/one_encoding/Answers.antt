use Rattle.scf_insn.proofs.Bijection as bijection
use Rattle.scf_insn.proofs.laws.one_encoding.Goals as goal

pub returns : goal.returns
returns c = record {
  length = bijection.length-program_bytes;
  one = bijection.one_list;
  some = bijection.some_list;
}
