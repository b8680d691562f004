use Rattle.scf_tool.proofs.Common.{AllZip, map, take}
use Rattle.scf_tool.specs.Inputs.{IsTableOf, named_of}
use Rattle.scf_request.specs.Contents.{rest_of_table}
use Rattle.scf_tool.proofs.owned_table.read_tables.Given as goal

abbrev pub invariant-loop-part : goal.invariant-loop-part
invariant-loop-part l = AllZip (IsTableOf l.is_limited)
    (map rest_of_table (take l.part-index l.parts)) (map named_of l.tables.items)
