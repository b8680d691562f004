use Rattle.scf_profile.proofs.Common.{take, All, IsOf}
use Rattle.scf_profile.proofs.profiles.profile_for.Given as goal

-- the call is of none of the architectures so far
abbrev pub invariant-loop-profile : goal.invariant-loop-profile
invariant-loop-profile l = All (λ p. IsOf p.architecture l.call → ⊥) (take l.profile-index l.profiles)
