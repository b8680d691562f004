use Rattle.std.specs.Prelude.{All}
use Rattle.scf_tool.proofs.Common.{rest_of, take}
use Rattle.scf_tool.specs.Inputs.{IsShort}
use Rattle.scf_tool.proofs.owned_table.are_short.Given as goal

abbrev pub invariant-loop-part : goal.invariant-loop-part
invariant-loop-part l = All (λ part. IsShort l.is_limited (rest_of part.reader)) (take l.part-index l.parts)
