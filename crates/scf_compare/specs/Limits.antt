-- The limits of a comparison.
use Rattle.std.specs.Prelude.{ℕ}
use Rattle.scf_compare.specs.declared.budget.Limit.{Limit}
use Rattle.scf_compare.specs.declared.budget.Splits.{Splits}
use Rattle.scf_compare.specs.declared.budget.Splits.TheVariants.{AtMost}

-- as many splits as a comparison may make where nothing is said of them
abbrev pub default_splits : Splits
default_splits = AtMost 10000

-- so many steps, and so many splits
abbrev pub limit_of_steps : ℕ → Limit
limit_of_steps steps = record { steps = steps; splits = default_splits }
