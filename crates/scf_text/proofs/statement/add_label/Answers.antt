use Rattle.scf_text.proofs.Common.{length_permutation, arith, nat_tests}
use Rattle.std.proofs.lemmas.Grind.{common_steps}
use Rattle.scf_text.proofs.ReadLemmas.{label_checked}
use Rattle.scf_text.proofs.statement.add_label.Goals as goal

pub returns-then-len-eq-CHECKED_FIRST-clause-adds : goal.returns-then-len-eq-CHECKED_FIRST-clause-adds
returns-then-len-eq-CHECKED_FIRST-clause-adds c = grind (arith, common_steps, nat_tests, length_permutation, label_checked, c.check_labels.ensures.tells)
