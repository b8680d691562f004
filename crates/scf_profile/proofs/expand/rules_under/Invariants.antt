use Rattle.scf_profile.proofs.Common.{◌≡◌, ◌≤◌, ◌++◌, drop, vec_len, max_rules, names_lacking, rules_from}
use Rattle.std.specs.List.{flat_map}
use Rattle.scf_profile.specs.declared.entry.Entry.{Entry}
use Rattle.scf_profile.proofs.expand.rules_under.Given as goal

-- the rules so far and those of the entries that are left are those of all, and so are the names that the table lacks
abbrev pub invariant-loop-i : goal.invariant-loop-i
invariant-loop-i l = record {
  rules : l.rules.items ++ rules_from l.left_out l.table.architecture l.table.table.now l.i (drop l.i l.entries)
      ≡ rules_from l.left_out l.table.architecture l.table.table.now 0 l.entries;
  few : vec_len l.rules ≤ max_rules;
  lacking : l.lacking ++ names_lacking l.table.table.now (flat_map (λ (e : Entry). e.names) (drop l.i l.entries))
      ≡ l.fn.lacking ++ names_lacking l.table.table.now (flat_map (λ (e : Entry). e.names) l.entries);
}
