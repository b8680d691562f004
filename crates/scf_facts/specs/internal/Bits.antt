-- Numbers that lack bits under a mask.
use Rattle.std.specs.Prelude.{◌<◌, ◌^◌, ℕ}
use Rattle.scf_facts.specs.declared.bits.Bits.{Bits}
use Rattle.scf_facts.specs.Bits.{HasBits, LacksBits}

-- some number has the first bits and not the others
abbrev pub SomeLack : Bits → Bits → Type 0
SomeLack bits others = (x : ℕ) × (x < 2 ^ 32) × HasBits bits x × LacksBits others x
