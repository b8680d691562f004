-- What is known of an argument, and which conditions that refutes.
use Rattle.std.specs.Prelude.{◌≡◌, ℕ, List, Some, false, slice_get}
use Rattle.scf_insn.specs.Words.{low, high}
use Rattle.scf_facts.specs.Bits.{HasBits}
use Rattle.scf_profile.specs.Condition.{condition_holds}
use Rattle.scf_profile.specs.declared.condition.Condition.{Condition}
use Rattle.scf_compare.specs.declared.known_argument.KnownArgument.{KnownArgument}

-- a number has the bits that are known of its halves
pub record HasHalves (known : KnownArgument) (n : ℕ) : Type 0 where
  pub high : HasBits known.high (high n)
  pub low : HasBits known.low (low n)

-- the first condition is on that argument, and fails of each such number
pub record IsRefuted (known : KnownArgument) (conditions : List Condition) : Type 0 where
  pub condition : Condition
  pub first : slice_get conditions 0 ≡ Some condition
  pub index : condition.index ≡ known.index
  pub fails : (n : ℕ) → HasHalves known n → condition_holds condition n ≡ false
