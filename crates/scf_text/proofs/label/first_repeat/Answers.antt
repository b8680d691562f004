use Rattle.scf_text.proofs.Common.{List, ℕ, subst, rules, get_or, take_all, IsFirstRepeat}
use Rattle.scf_text.proofs.RepeatLemmas.{one_label, label_looked, least_is, word_decides}
use Rattle.scf_text.proofs.label.first_repeat.Goals as goal
use Rattle.scf_text.proofs.label.first_repeat.Goals.{then-is_eq, else-is_eq}

pub loop-index-init : goal.loop-index-init
loop-index-init c = λ apart. one_label c.args.text.now c.args.labels.now

pub loop-index-preserved : goal.loop-index-preserved
loop-index-preserved c = λ apart.
    let labels = c.args.labels.now in
    let i = c.loop-index.index in
    let first = c.loop-index.first in
    let looked = label_looked c.args.text.now labels c.requires i first c.is_eq.result apart c.loop-index.auto.index
    c.loop-index-test.true
    (word_decides c.compare_words.result c.is_eq.result _ _ c.compare_words.ensures c.is_eq.ensures)
    (c.loop-index.invariant apart) in
    elim c.if-is_eq.branch [
      | then-is_eq w ↦
          rw (w.first-is, least_is first (get_or labels i 0) w.min.result (search rules))
          (rw w.if-is_eq.true at looked)
      | else-is_eq w ↦ rw w.first-is (rw w.if-is_eq.false at looked)
    ]

pub returns : goal.returns
returns c = λ apart.
    subst (λ (ls : List ℕ). IsFirstRepeat c.args.text.now ls c.loop-index.first)
    (take_all c.loop-index.index c.args.labels.now c.loop-index-test.false) (c.loop-index.invariant apart)
