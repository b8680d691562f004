use Rattle.scf_insn.proofs.Common.{arith}
use Rattle.scf_insn.proofs.record.recall_words.Goals as goal

pub returns : goal.returns
returns c = λ i. omega (arith, c.type_inv.words i)
