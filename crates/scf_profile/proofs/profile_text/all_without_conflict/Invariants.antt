use Rattle.scf_profile.proofs.Common.{◌≡◌, ◌++◌, length, map, All, HaveNoConflict, effective_of}
use Rattle.std.specs.Vec.Iter.{into_iter_items, into_iter_len}
use Rattle.scf_profile.proofs.profile_text.all_without_conflict.Given as goal

-- the profiles of the rules so far, none of which has a conflict
abbrev pub invariant-loop-rules : goal.invariant-loop-rules
invariant-loop-rules l = record {
  left : l.yielded ++ into_iter_items l.rules-iterator ≡ into_iter_items l.initial.rules-iterator;
  count : into_iter_len l.rules-iterator ≡ length (into_iter_items l.rules-iterator);
  same : l.profiles.items ≡ map (effective_of l.reading l.default_answer) l.yielded;
  none : All (λ p. HaveNoConflict p.architecture p.rules) l.profiles.items;
}
