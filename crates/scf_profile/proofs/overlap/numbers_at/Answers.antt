use Rattle.scf_profile.proofs.Common.{Some, None, sym, ◌∙◌, arith, le-leb}
use Rattle.scf_profile.proofs.Overlaps.{hold_by_found}
use Rattle.scf_profile.proofs.overlap.numbers_at.Goals as goal

pub returns-in-Some-clause-same : goal.returns-in-Some-clause-same
returns-in-Some-clause-same c = λ n fits.
    let same =
    hold_by_found c.args.conditions.now c.args.index n c.requires (Some c.in-Some.condition.now) c.in-Some.ensures in
    (λ h. same.0 (sym (c.numbers.ensures.same n fits) ∙ h), λ h. c.numbers.ensures.same n fits ∙ same.1 h)

pub returns-in-None-clause-same : goal.returns-in-None-clause-same
returns-in-None-clause-same c = λ n fits. (
  λ _. hold_by_found c.args.conditions.now c.args.index n c.requires None c.in-None.ensures,
  λ _. le-leb 0 n (omega arith),
)
