use Rattle.scf_profile.proofs.Common.{◌≡◌, ◌++◌, drop, map, take, with_stub}
use Rattle.scf_profile.proofs.profiles.all_with_stub.Given as goal

-- the profiles so far have the stub, and the others are as they were
abbrev pub invariant-loop-profile : goal.invariant-loop-profile
invariant-loop-profile l =
    let before = l.initial.profile-items in
    l.profile-items
    ≡ map (with_stub l.architecture l.first) (take l.profile-index before) ++ drop l.profile-index before
