use Rattle.std.proofs.Common.{◌≡◌, map, take}
use Rattle.scf_request.specs.Contents.{rest_of}
use Rattle.scf_c.specs.Layout.{bytes_of}
use Rattle.scf_c.proofs.stack.readers_of.Given as goal

abbrev pub invariant-loop-filter : goal.invariant-loop-filter
invariant-loop-filter l = map rest_of l.readers.items ≡ bytes_of (take l.filter-index l.filters)
