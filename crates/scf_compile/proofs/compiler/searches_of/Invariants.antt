use Rattle.scf_compile.proofs.Common.{◌-◌, ◌*◌, ◌^◌, ◌≤◌, drop, length, AreSearched}
use Rattle.scf_compile.proofs.compiler.searches_of.Given as goal

-- the searches of the profiles from an index on
abbrev pub invariant-loop-i : goal.invariant-loop-i
invariant-loop-i l = record {
  put : AreSearched (drop l.i l.profiles) l.code.items l.searches.items;
  small : length l.code.items ≤ 2 ^ 18 * (length l.profiles - l.i);
}
