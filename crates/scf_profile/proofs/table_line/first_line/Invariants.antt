use Rattle.scf_profile.proofs.Common.{◌≡◌, All, take, false, eqb}
use Rattle.scf_profile.proofs.table_line.first_line.Given as goal

abbrev pub invariant-loop-i : goal.invariant-loop-i
invariant-loop-i l = All (λ b. eqb b 10 ≡ false) (take l.i l.text)
