use Rattle.scf_insn.proofs.Common.{rules}
use Rattle.scf_insn.proofs.CallWords.{words_by_index, words_of-call_of}
use Rattle.scf_insn.proofs.record.CallRecord.from_words.Goals as goal

pub returns-clause-words : goal.returns-clause-words
returns-clause-words c =
    rw (
      c.joined.ensures,
      c.joined-2.ensures,
      c.joined-3.ensures,
      c.joined-4.ensures,
      c.joined-5.ensures,
      c.joined-6.ensures,
      c.joined-7.ensures,
    )
    (words_of-call_of c.args.words.now (words_by_index c.args.words.now (search rules) c.recall_words.ensures))
