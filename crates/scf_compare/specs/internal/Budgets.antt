-- What taking a step or a split leaves of a budget.
use Rattle.std.specs.Prelude.{◌≡◌, ◌+◌, ℕ, Bool, true, false}
use Rattle.scf_compare.specs.declared.budget.Splits.{Splits}
use Rattle.scf_compare.specs.declared.budget.Splits.TheVariants.{AtMost, NoLimit}

-- one was taken, unless none was left
abbrev pub IsOneTaken : Bool → ℕ → ℕ → Type 0
IsOneTaken true old new = new + 1 ≡ old
IsOneTaken false old new = (old ≡ 0) × (new ≡ 0)

-- so was a step, unless the splits have no limit
abbrev pub IsStepTaken : Splits → Bool → ℕ → ℕ → Type 0
IsStepTaken (AtMost splits) taken old new = IsOneTaken taken old new
IsStepTaken NoLimit taken old new = (taken ≡ true) × (new ≡ old)

-- and so was a split
abbrev pub IsSplitTaken : Bool → Splits → Splits → Type 0
IsSplitTaken taken (AtMost old) (AtMost new) = IsOneTaken taken old new
IsSplitTaken taken (AtMost old) NoLimit = ⊥
IsSplitTaken taken NoLimit new = (taken ≡ true) × (new ≡ NoLimit)
