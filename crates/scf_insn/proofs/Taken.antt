-- What was taken from a reader by one read after others.
use Rattle.scf_insn.proofs.Common.{ℕ, ◌+◌, ◌<◌, ◌≤◌, ◌++◌, List, length, Option, arith, length-append, Consumes, Consumes-trans, GivesAtMost, GivesSome}

-- what was taken before, and the bytes of the last read
pub gives_bounded : (old mid new : Option (List ℕ)) (before given : List ℕ) (limit : ℕ) → Consumes old mid before
    → Consumes mid new given → length before + length given ≤ limit → GivesAtMost limit old new
gives_bounded old mid new before given limit a b few = (
  before ++ given,
  simp length-append few,
  Consumes-trans old mid new before given a b,
)

pub gives_some : (old mid new : Option (List ℕ)) (before given : List ℕ) → Consumes old mid before
    → Consumes mid new given → 0 < length given → GivesSome old new
gives_some old mid new before given a b some = (
  before ++ given,
  simp length-append (omega arith),
  Consumes-trans old mid new before given a b,
)
