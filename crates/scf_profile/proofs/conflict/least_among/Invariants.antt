use Rattle.scf_profile.proofs.Common.{◌≡◌, take, Some, ◌⊎◌, All, IfSome, Clash, EntriesConflict, IsBoundedBy, IsClashBounded}
use Rattle.scf_profile.proofs.conflict.least_among.Given as goal

-- the least so far of the one that was known and the clashes with the later rules so far
abbrev pub invariant-loop-later : goal.invariant-loop-later
invariant-loop-later l = record {
  one : IfSome l.least (λ c. (l.fn.clash ≡ Some c) ⊎ EntriesConflict l.architecture l.rules c.first c.second c.number);
  bounds : All (λ later. All (IsClashBounded l.architecture l.least later) l.rules) (take l.later-index l.rules);
  keeps : (c : Clash) → IsBoundedBy l.fn.clash c → IsBoundedBy l.least c;
}
