-- What a comparison of two sides promises.
use Rattle.std.specs.Prelude.{◌≡◌, ◌*◌, ◌≤◌, ℕ}
use Rattle.scf_facts.specs.Masks.{AreFew}
use Rattle.scf_compare.specs.declared.budget.Limit.{Limit}
use Rattle.scf_compare.specs.declared.budget.Splits.TheVariants.{NoLimit}
use Rattle.scf_compare.specs.declared.finding.Finding.{Finding}
use Rattle.scf_compare.specs.Findings.{AllRelated, Compared, IsFindingDecided}
use Rattle.scf_compare.specs.internal.Stages.{IsExplored}

abbrev pub effort_between : Compared → ℕ
effort_between compared = compared.left.size * compared.right.size

-- a finding in so many steps, by a store that is complete if this holds, that leaves so many of a budget's steps
pub record IsComparison (compared : Compared) (is_complete are_one : Type 0) (limit : ℕ) (budget : Limit)
    (finding : Finding) (taken left_below : ℕ) : Type 0 where
  pub explored : IsExplored compared
      (λ masks. AreFew masks × is_complete × compared.left.is_masked masks × compared.right.is_masked masks)
      limit (effort_between compared) taken finding
  pub settled : budget.splits ≡ NoLimit
      → IsFindingDecided (AllRelated compared) limit (effort_between compared) finding
  pub of_one : are_one → IsFindingDecided (AllRelated compared) limit (effort_between compared) finding
  pub below : left_below ≤ budget.steps
