use Rattle.scf_profile.proofs.Common.{◌≡◌, ◌≤◌, ◌++◌, ◌∷◌, [], drop, map, vec_len, max_rules, numbers_named}
use Rattle.scf_profile.proofs.StatedRules.{rules_by_each}
use Rattle.scf_profile.proofs.expand.add_entry.Given as goal

-- what was added and what is stated by each of the conditions that are left is what all of them state
abbrev pub invariant-loop-condition : goal.invariant-loop-condition
invariant-loop-condition l = record {
  rules : l.rules.items ++ rules_by_each l.index (map (λ c. c ∷ []) (drop l.condition-index l.conditions)) l.entry.answer
      (numbers_named l.table.architecture l.table.table.now l.entry.names)
      ≡ l.fn.rules.items ++ rules_by_each l.index (map (λ c. c ∷ []) l.entry.conditions) l.entry.answer
      (numbers_named l.table.architecture l.table.table.now l.entry.names);
  few : vec_len l.rules ≤ max_rules;
}
