use Rattle.scf_profile.proofs.Common.{◌≡◌, ◌≤◌, ◌<◌, ℕ, Some, Rule}
use Rattle.std.specs.List.{slice_get}
use Rattle.scf_profile.specs.NumberRules.{Rise}
use Rattle.scf_profile.proofs.number_rules.are_rising.Given as goal

-- so do those so far
abbrev pub invariant-loop-i : goal.invariant-loop-i
invariant-loop-i l =
    (i j : ℕ) (r s : Rule) → i ≤ j → j < l.i → slice_get l.rules i ≡ Some r → slice_get l.rules j ≡ Some s → Rise r s
