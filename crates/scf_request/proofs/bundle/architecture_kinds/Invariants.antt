use Rattle.std.specs.Prelude.{◌*◌}
use Rattle.scf_request.proofs.Common.{◌≡◌, ℕ, ◌+◌, ◌<◌, get_or, length, X8664, CountsOf, Filter, StubOf, TableOf, architectures, architecture_kinds}
use Rattle.scf_request.proofs.bundle.architecture_kinds.Given as goal

-- the first three kinds stand, and those of the architectures up to an index
abbrev pub invariant-loop-i : goal.invariant-loop-i
invariant-loop-i l = (length l.kinds ≡ length architecture_kinds)
    × ((k : ℕ) → k < 3 → get_or l.kinds k Filter ≡ get_or architecture_kinds k Filter)
    × ((k : ℕ) → k < l.i → get_or l.kinds (3 + k) Filter ≡ TableOf (get_or architectures k X8664))
    × ((k : ℕ) → k < l.i → get_or l.kinds (3 + length architectures + k) Filter ≡ StubOf (get_or architectures k X8664))
    × ((k : ℕ) → k < l.i
    → get_or l.kinds (3 + 2 * length architectures + k) Filter ≡ CountsOf (get_or architectures k X8664))
