use Rattle.std.proofs.Common.{◌≡◌, map, take}
use Rattle.scf_request.specs.Contents.{rest_of_table}
use Rattle.scf_c.specs.Architectures.{texts_of}
use Rattle.scf_c.proofs.tables.table_readers_of.Given as goal

abbrev pub invariant-loop-table : goal.invariant-loop-table
invariant-loop-table l = map rest_of_table l.readers.items ≡ texts_of (take l.table-index l.tables)
