use Rattle.scf_profile.proofs.Common.{◌≡◌, ◌++◌}
use Rattle.scf_profile.proofs.table.entries_of.Given as goal

-- the entries so far and those to come are those of the map
abbrev pub invariant-loop-name : goal.invariant-loop-name
invariant-loop-name l = l.entries.items ++ l.name-iterator ≡ l.fn.numbers.entries
