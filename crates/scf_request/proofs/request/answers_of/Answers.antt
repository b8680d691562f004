use Rattle.scf_request.proofs.Common.{◌≡◌, Answers, arith, err_from_is_err_and, found_of, refl, rows_of, true}
use Rattle.std.proofs.Common.{inr}
use Rattle.std.proofs.lemmas.Grind.{common_steps}
use Rattle.scf_request.specs.Options.{comparison_options, excludes_walk, numbers_of_comparison}
use Rattle.scf_request.proofs.OptionLemmas.{none_wrong}
use Rattle.scf_request.proofs.request.answers_of.Goals as goal

pub returns-in_err-comparison-clause-fault : goal.returns-in_err-comparison-clause-fault
returns-in_err-comparison-clause-fault c =
    let p = err_from_is_err_and c.from_residual.result c.from_residual.ensures.1 in
    rw (p.1, p.2) (c.in_err-comparison.ensures.fault Answers refl)

pub returns-then-excludes_walk-clause-fault : goal.returns-then-excludes_walk-clause-fault
returns-then-excludes_walk-clause-fault c =
    let rows = rows_of (found_of c.args.options.now) in
    let comparison = c.in_ok-comparison in
    let none = none_wrong comparison_options rows (numbers_of_comparison comparison.comparison)
    comparison.ensures.numbers in
    let excluded : excludes_walk rows ≡ true = grind (arith, common_steps) in
    (Answers, refl, none, inr (inr excluded))
