-- Bits of the sixteen words that splits have fixed.
use Rattle.std.specs.Prelude.{◌≡◌, ◌-◌, ◌<◌, ◌^◌, ℕ, List, bit_and}
use Rattle.std.specs.Int.{IsPowerOfTwo}
use Rattle.scf_facts.specs.declared.bits.Bits.{Bits}
use Rattle.scf_compare.specs.declared.fixed_bits.WordBit.{WordBit}
use Rattle.scf_compare.specs.Splits.{bits_at}

-- every bit of each word is fixed
abbrev pub AreWhole : List Bits → Type 0
AreWhole fixed = (index : ℕ) → index < 16 → (bits_at fixed index).mask ≡ 2 ^ 32 - 1

-- one bit of one of the sixteen words, which isn't fixed
pub record IsOpenBit (fixed : List Bits) (bit : WordBit) : Type 0 where
  pub word : bit.word < 16
  pub one : IsPowerOfTwo bit.mask
  pub unfixed : bit_and (bits_at fixed bit.word).mask bit.mask ≡ 0
