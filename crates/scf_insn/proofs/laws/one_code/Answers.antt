use Rattle.scf_insn.proofs.Codes as codes
use Rattle.scf_insn.proofs.laws.one_code.Goals as goal

pub returns : goal.returns
returns c = record {
  operation = codes.asks_for;
  code = codes.only_code;
}
