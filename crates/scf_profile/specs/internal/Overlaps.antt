-- Conditions of two rules that hold together.
use Rattle.std.specs.Prelude.{◌≡◌, ℕ, ◌<◌, ◌≤◌, true, List, All}
use Rattle.scf_insn.specs.Architectures.{greatest_argument}
use Rattle.scf_insn.specs.declared.architecture.ArgumentBits.{ArgumentBits}
use Rattle.scf_insn.specs.Kernel.{seccomp_data_args}
use Rattle.scf_profile.specs.declared.condition.Condition.{Condition}
use Rattle.scf_profile.specs.Condition.{condition_holds}

-- the conditions on an argument hold of a number
abbrev pub HoldAt : List Condition → ℕ → ℕ → Type 0
HoldAt conditions index number = All (λ c. c.index ≡ index → condition_holds c number ≡ true) conditions

-- the conditions of both lists on an argument hold of some number that it can be
pub record OverlapAt (bits : ArgumentBits) (cs ds : List Condition) (index : ℕ) : Type 0 where
  pub number : ℕ
  pub fits : number ≤ greatest_argument bits
  pub first : HoldAt cs index number
  pub second : HoldAt ds index number

-- they do on each argument
abbrev pub Overlap : ArgumentBits → List Condition → List Condition → Type 0
Overlap bits cs ds = (index : ℕ) → index < seccomp_data_args → OverlapAt bits cs ds index
