use Rattle.scf_insn.proofs.Common.{common_steps, arith}
use Rattle.scf_insn.proofs.CallWords.{length-words_of}
use Rattle.scf_insn.proofs.Records.{next_word, all_words}
use Rattle.scf_insn.proofs.record.CallRecord.to_bytes.Goals as goal

pub loop-i-preserved : goal.loop-i-preserved
loop-i-preserved c = grind (arith, common_steps, length-words_of, next_word)

pub returns : goal.returns
returns c = grind (arith, common_steps, all_words, length-words_of)
