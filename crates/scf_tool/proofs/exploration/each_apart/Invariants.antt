use Rattle.scf_tool.proofs.Common.{AllZip, take}
use Rattle.scf_tool.specs.internal.Plans.{IsProfileBeside}
use Rattle.scf_tool.proofs.exploration.each_apart.Given as goal

abbrev pub invariant-loop-profile : goal.invariant-loop-profile
invariant-loop-profile l =
    AllZip (IsProfileBeside l.right l.scope) (take l.profile-index l.profiles) l.pairings.items
