use Rattle.scf_profile.proofs.Common.{◌≡◌, drop, is_in_none, tables_of}
use Rattle.scf_profile.proofs.expand.is_in_none.Given as goal

-- whether none from this one on has the name is whether none has
abbrev pub invariant-loop-table : goal.invariant-loop-table
invariant-loop-table l =
    is_in_none (tables_of (drop l.table-index l.tables)) l.name ≡ is_in_none (tables_of l.tables) l.name
