use Rattle.scf_compare.proofs.Common.{arith, ◌∙◌}
use Rattle.scf_compare.proofs.frontier.open_branch.Goals as goal

pub returns : goal.returns
returns g c =
    let marked = c.in_ok-mark.ensures in
    let learned = c.in_ok-learn_answer.ensures in
    record {
      branches = c.in_ok-push.ensures.items;
      marks = learned.marks ∙ marked.opened;
      levels = λ index up_to. grind (arith, marked.opened, marked.at_marks index, learned.at_marks index);
      known = λ words. grind (arith, marked.opened, marked.known, learned.marks, learned.learned words);
      among = λ masks keeps was. grind (arith, marked.opened, marked.known, learned.marks, learned.among masks keeps);
    }
