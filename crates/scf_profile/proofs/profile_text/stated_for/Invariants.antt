use Rattle.scf_profile.proofs.Common.{◌≡◌, ◌++◌, drop, filter_map, map, All, Answer, AreStatedRules, HasSkipped, profile_for, profiles_from, stated_profile, tables_of}
use Rattle.scf_profile.proofs.profile_text.stated_for.Given as goal

-- the profiles so far and those of the architectures that are left are those of all
abbrev pub invariant-loop-architecture : goal.invariant-loop-architecture
invariant-loop-architecture l = record {
  rules : (default : Answer) → map (stated_profile default) l.stated.items
      ++ filter_map (profile_for l.left_out (tables_of l.tables) default l.entries)
      (drop l.architecture-index l.architecture-items)
      ≡ profiles_from l.left_out (tables_of l.tables) default l.entries;
  range : All (λ s. AreStatedRules s.architecture s.rules.items) l.stated.items;
  names : HasSkipped (tables_of l.tables) l.entries l.fn.names → HasSkipped (tables_of l.tables) l.entries l.names;
}
