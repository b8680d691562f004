use Rattle.scf_profile.proofs.Common.{ℕ, ◌<◌, OverlapAt}
use Rattle.scf_profile.proofs.overlap.conditions_overlap.Given as goal

-- the conditions overlap on each argument so far
abbrev pub invariant-loop-index : goal.invariant-loop-index
invariant-loop-index l = (i : ℕ) → i < l.index → OverlapAt l.bits l.first l.second i
