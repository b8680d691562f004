use Rattle.scf_profile.proofs.Common.{◌≡◌, ◌++◌, drop, texts_at, other_names, tables_of}
use Rattle.scf_profile.proofs.expand.other_architectures.Given as goal

-- those of the names so far and of the names that are left are those of all
abbrev pub invariant-loop-name : goal.invariant-loop-name
invariant-loop-name l =
    l.others ++ other_names (tables_of l.tables) (texts_at (drop l.name-index l.name-items)) ≡ other_names (tables_of l.tables) l.architectures
