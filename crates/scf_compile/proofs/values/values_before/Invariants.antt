use Rattle.scf_compile.proofs.Common.{◌≡◌, ◌+◌, length, AreValuesBefore}
use Rattle.scf_compile.proofs.values.values_before.Given as goal

-- the rules from an index on are for the values so far
abbrev pub invariant-loop-i : goal.invariant-loop-i
invariant-loop-i l = record {
  count : l.i + length l.values.items ≡ l.fn.end;
  values : AreValuesBefore l.architecture l.rules l.fn.end l.values.items;
}
