use Rattle.scf_insn.proofs.Common.{sym, ap, ◌∙◌, take, drop, ◌++◌, arith, drop-drop}
use Rattle.scf_insn.proofs.Records.{eight, number_of_halves}
use Rattle.scf_insn.proofs.record.number_at.Goals as goal

pub returns : goal.returns
returns c =
    let small = c.word_at.type_inv in
    let xs = c.args.bytes.now in
    let at = c.args.at in
    number_of_halves c.word_at.result c.word_at-2.result c.joined.result _ _ (omega arith) c.joined.ensures
    c.word_at.ensures c.word_at-2.ensures
    ∙ ap (λ ys. take 4 (drop at xs) ++ take 4 ys) (sym (drop-drop 4 at xs)) ∙ sym (eight (drop at xs))
