use Rattle.scf_tool.proofs.Common.{map, take}
use Rattle.scf_profile.proofs.Common.{All}
use Rattle.scf_request.specs.Contents.{rest_of_table}
use Rattle.scf_tool.specs.Commands.{ArePartsOfOne}
use Rattle.scf_tool.proofs.inputs.are_distinct.Given as goal

abbrev pub invariant-loop-architecture : goal.invariant-loop-architecture
invariant-loop-architecture l =
    All (ArePartsOfOne (map rest_of_table l.tables) (map rest_of_table l.stubs))
    (take l.architecture-index l.architecture-items)
