use Rattle.scf_profile.proofs.Common.{◌≡◌, All, take, false, is_separator}
use Rattle.scf_profile.proofs.table_line.first_field.Given as goal

abbrev pub invariant-loop-i : goal.invariant-loop-i
invariant-loop-i l = All (λ b. is_separator b ≡ false) (take l.i l.line)
