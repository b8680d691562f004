use Rattle.scf_profile.proofs.Common.{◌≡◌, take, Some, ◌⊎◌, All, Any, IfSome, Clash, IsBoundedBy, IsClashBounded, IsClashOf}
use Rattle.scf_profile.proofs.conflict.least_with.Given as goal

-- the least so far of the one that was known and the clashes of the rules so far
abbrev pub invariant-loop-rule : goal.invariant-loop-rule
invariant-loop-rule l = record {
  one : IfSome l.least (λ c. (l.fn.clash ≡ Some c) ⊎ Any (λ r. IsClashOf l.architecture r l.later c) l.rules);
  bounds : All (IsClashBounded l.architecture l.least l.later) (take l.rule-index l.rules);
  keeps : (c : Clash) → IsBoundedBy l.fn.clash c → IsBoundedBy l.least c;
}
