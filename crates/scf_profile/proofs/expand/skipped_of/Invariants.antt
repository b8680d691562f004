use Rattle.scf_profile.proofs.Common.{◌≡◌, ◌++◌, drop, filter, is_in_none, tables_of, texts_at}
use Rattle.scf_profile.proofs.expand.skipped_of.Given as goal

-- what was added and the skipped ones of the names that are left are those of all names
abbrev pub invariant-loop-name : goal.invariant-loop-name
invariant-loop-name l =
    l.skipped ++ filter (is_in_none (tables_of l.tables)) (texts_at (drop l.name-index l.name-items))
    ≡ filter (is_in_none (tables_of l.tables)) l.names
