-- Numbers by their bits under a mask.
use Rattle.std.specs.Prelude.{◌≡◌, ◌≢◌, ◌-◌, ◌^◌, ℕ, bit_and}
use Rattle.scf_facts.specs.declared.bits.Bits.{Bits}

-- a number has these bits
abbrev pub HasBits : Bits → ℕ → Type 0
HasBits bits x = bit_and x bits.mask ≡ bits.value

-- a number doesn't have these bits
abbrev pub LacksBits : Bits → ℕ → Type 0
LacksBits bits x = bit_and x bits.mask ≢ bits.value

-- one number alone has these bits: they are all 32
abbrev pub FixesNumber : Bits → Type 0
FixesNumber bits = bits.mask ≡ 2 ^ 32 - 1
