use Rattle.scf_profile.proofs.Common.{◌≡◌, drop, has_repeated_index}
use Rattle.scf_profile.proofs.args.has_repeated_index.Given as goal

-- the conditions from this one on have what all have
abbrev pub invariant-loop-i : goal.invariant-loop-i
invariant-loop-i l = has_repeated_index (drop l.i l.conditions) ≡ has_repeated_index l.conditions
