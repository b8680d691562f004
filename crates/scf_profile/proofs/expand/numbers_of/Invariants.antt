use Rattle.scf_profile.proofs.Common.{◌≡◌, ◌++◌, drop, texts_at, names_lacking, numbers_named}
use Rattle.scf_profile.proofs.expand.numbers_of.Given as goal

-- what was found and what is found of the names that are left is what is found of all names
abbrev pub invariant-loop-name : goal.invariant-loop-name
invariant-loop-name l = record {
  numbers : l.numbers.items
      ++ numbers_named l.table.architecture l.table.table.now (texts_at (drop l.name-index l.name-items))
      ≡ numbers_named l.table.architecture l.table.table.now l.names;
  lacking : l.lacking ++ names_lacking l.table.table.now (texts_at (drop l.name-index l.name-items))
      ≡ l.fn.lacking ++ names_lacking l.table.table.now l.names;
}
