use Rattle.scf_tool.proofs.Common.{AllZip, take}
use Rattle.scf_tool.specs.internal.Plans.{IsBesideProfile}
use Rattle.scf_tool.proofs.findings.beside_each.Given as goal

abbrev pub invariant-loop-profile : goal.invariant-loop-profile
invariant-loop-profile l =
    AllZip (IsBesideProfile l.left l.scope) (take l.profile-index l.profiles) l.pairings.items
