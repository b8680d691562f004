use Rattle.scf_request.proofs.Common.{◌-◌, ◌≤◌, length, take, SpellsParts}
use Rattle.scf_request.proofs.bundle.split_by.Given as goal

abbrev pub invariant-loop-offset : goal.invariant-loop-offset
invariant-loop-offset l = record {
  inside : l.offset ≤ length l.bytes;
  spelled : SpellsParts l.kinds 0 (take l.offset l.bytes) l.parts.items;
}

abbrev pub decreases-loop-offset : goal.decreases-loop-offset
decreases-loop-offset l = length l.bytes - l.offset
