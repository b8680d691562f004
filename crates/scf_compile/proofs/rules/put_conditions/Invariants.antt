use Rattle.scf_compile.proofs.Common.{◌≡◌, ◌+◌, ◌-◌, ◌*◌, ◌≤◌, ◌++◌, drop, length, conditions_code}
use Rattle.scf_compile.proofs.rules.put_conditions.Given as goal

-- the tests of the conditions from an index on stand before what stood
abbrev pub invariant-loop-i : goal.invariant-loop-i
invariant-loop-i l = record {
  whole : l.code.items ≡ conditions_code l.architecture (drop l.i l.conditions) ++ l.fn.code.items;
  few : length l.code.items ≤ length l.fn.code.items + 6 * (length l.conditions - l.i);
}
