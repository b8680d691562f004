-- Splits: the bits that they fix, and how many a comparison can make.
use Rattle.std.specs.Prelude.{◌≡◌, ◌+◌, ◌-◌, ◌<◌, ◌^◌, ℕ, List, count_ones, length, slice_index, slice_index_or, sum_by}
use Rattle.scf_facts.specs.Bits.{HasBits}
use Rattle.scf_facts.specs.declared.atom.Atom.{Atom}
use Rattle.scf_facts.specs.declared.atom.Atom.TheVariants.{Eq}
use Rattle.scf_facts.specs.declared.bits.Bits.{Bits}

-- whether a word has a bit
abbrev pub bit_is_set : ℕ → ℕ → Atom
bit_is_set word bit = Eq word bit bit

-- what is fixed of the word at an index
abbrev pub bits_at : List Bits → ℕ → Bits
bits_at fixed index = slice_index_or fixed index (record { mask = 0; value = 0 })

-- each word has the bits that are fixed of it
abbrev pub HaveBits : List Bits → List ℕ → Type 0
HaveBits fixed words = (index : ℕ) → HasBits (bits_at fixed index) (slice_index words index)

-- how many bits of the words aren't fixed
abbrev pub open_bits : List Bits → ℕ
open_bits fixed = sum_by (λ bits. 32 - count_ones bits.mask) fixed

-- Splits that are made where so many bits aren't fixed: in both halves of each one fewer bits are left.
pub data Splitting : ℕ → Type 0 where
  Unsplit : {left : ℕ} → Splitting left
  Split : {left set clear : ℕ} → set < left → clear < left → Splitting set → Splitting clear → Splitting left

abbrev pub split_count : {left : ℕ} → Splitting left → ℕ
split_count Unsplit = 0
split_count (Split fewer_set fewer_clear if_set if_clear) = 1 + split_count if_set + split_count if_clear

-- sixteen words have 512 bits, so there are fewer than 2^512 splits
abbrev pub SplitsEnd : Type 0
SplitsEnd = (fixed : List Bits) → length fixed ≡ 16 → (splits : Splitting (open_bits fixed))
    → split_count splits < 2 ^ 512
