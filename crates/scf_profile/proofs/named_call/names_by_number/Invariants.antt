use Rattle.scf_profile.proofs.Common.{◌≡◌, ℕ, length, nat_lt, ◌++◌, is_some, nat_cmp, drop, names_under, names_with}
use Rattle.std.specs.BTreeMap.{get}
use Rattle.scf_profile.proofs.named_call.names_by_number.Given as goal

-- the names so far and those of the other entries are those of all
abbrev pub invariant-loop-entry : goal.invariant-loop-entry
invariant-loop-entry l = record {
  names : (n : ℕ) → names_under l.named n ++ names_with n (drop l.entry-index l.entries) ≡ names_with n l.entries;
  numbers : (n : ℕ) → is_some (get nat_cmp l.named n) ≡ nat_lt 0 (length (names_under l.named n));
}
