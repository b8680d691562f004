use Rattle.scf_profile.proofs.Common.{take, All, Any, IfSome, EntriesConflict, IsClashBounded}
use Rattle.scf_profile.proofs.conflict.least_conflict.Given as goal

-- the least of the clashes among the rules of the numbers so far
abbrev pub invariant-loop-group : goal.invariant-loop-group
invariant-loop-group l = record {
  one : IfSome l.least (λ c. Any (λ group. EntriesConflict l.architecture group.rules.items c.first c.second c.number) l.numbers);
  bounds : All (λ group. All (λ later. All (IsClashBounded l.architecture l.least later) group.rules.items) group.rules.items)
      (take l.group-index l.numbers);
}
