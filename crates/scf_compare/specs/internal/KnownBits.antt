-- What is known bit by bit of results.
use Rattle.std.specs.Prelude.{◌≡◌, ◌≢◌, ◌%◌, ◌-◌, ◌<◌, ◌≤◌, ◌^◌, ℕ, bit_and}
use Rattle.scf_insn.specs.declared.operation.Arithmetic.{Arithmetic}
use Rattle.scf_insn.specs.declared.operation.Arithmetic.TheVariants.{Div, Lsh, Rsh}

-- a computation whose second operand is this number is no division by 0 and no shift by 32 or more
abbrev pub HasResult : Arithmetic → ℕ → Type 0
HasResult Div v = v ≢ 0
HasResult Lsh v = v < 32
HasResult Rsh v = v < 32
HasResult arithmetic v = Unit {0}

-- two numbers agree in as many low bits as the mask has from bit 0 on
abbrev pub IsLowEnd : ℕ → ℕ → ℕ → Type 0
IsLowEnd mask a b = (k : ℕ) → k ≤ 32 → bit_and mask (2 ^ k - 1) ≡ 2 ^ k - 1 → a % 2 ^ k ≡ b % 2 ^ k
