use Rattle.scf_profile.proofs.Common.{map_over_more, with_stub}
use Rattle.scf_profile.proofs.profiles.all_with_stub.Goals as goal

pub loop-profile-preserved : goal.loop-profile-preserved
loop-profile-preserved c =
    rw (c.set_stub.ensures, ← c.profile-item.is)
    (map_over_more (with_stub c.args.architecture c.args.first) c.deref_mut-profile-items.result.now
    c.loop-profile.profile-items c.loop-profile.profile-index c.profile-item.result
    c.loop-profile-test.true c.loop-profile.invariant c.profile-item.is)
