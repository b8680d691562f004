use Rattle.scf_text.proofs.Common.{◌≡◌, rules, ranks_by, is_before, is_lt}
use Rattle.std.proofs.lemmas.Fn.{always_returns_same}
use Rattle.scf_text.proofs.RepeatLemmas.{compared_total}
use Rattle.scf_text.proofs.label.sort_labels.Goals as goal

pub returns-clause-sorted : goal.returns-clause-sorted
returns-clause-sorted c =
    let text = c.args.text.now in
    c.sort_unstable_by.ensures.sorted (is_before text) (ranks_by (compared_total text) (λ x. x))
    (always_returns_same _ (λ a r. is_lt r ≡ is_before text a.0.now a.1.0.now) _ (λ a r f k. search rules))
