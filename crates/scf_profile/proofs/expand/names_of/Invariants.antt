use Rattle.scf_profile.proofs.Common.{◌≡◌, ◌++◌, drop}
use Rattle.std.specs.List.{flat_map}
use Rattle.scf_profile.specs.declared.entry.Entry.{Entry}
use Rattle.scf_profile.proofs.expand.names_of.Given as goal

-- the names so far and those of the entries that are left are those of all
abbrev pub invariant-loop-entry : goal.invariant-loop-entry
invariant-loop-entry l =
    l.names ++ flat_map (λ (e : Entry). e.names) (drop l.entry-index l.entries)
    ≡ flat_map (λ (e : Entry). e.names) l.entries
