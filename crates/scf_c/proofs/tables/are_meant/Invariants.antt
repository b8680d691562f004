use Rattle.std.proofs.Common.{◌≤◌, All, take}
use Rattle.scf_c.specs.Architectures.{IsMeant, count_for}
use Rattle.scf_c.proofs.tables.are_meant.Given as goal

abbrev pub invariant-loop-table : goal.invariant-loop-table
invariant-loop-table l =
    All (λ table. IsMeant table × (count_for table.architecture l.tables ≤ 1)) (take l.table-index l.tables)
