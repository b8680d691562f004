use Rattle.scf_profile.proofs.Common.{with_stub}
use Rattle.scf_profile.proofs.Stated.{still_apart, with_stub_keeps_architecture}
use Rattle.scf_profile.proofs.profiles.Profiles.with_stub.Goals as goal

pub from_vec-requires : goal.from_vec-requires
from_vec-requires c =
    rw c.all_with_stub.ensures
    (still_apart (with_stub c.args.architecture c.args.first) c.self.inside.list.items
    (with_stub_keeps_architecture c.args.architecture c.args.first) c.self.invariant)
