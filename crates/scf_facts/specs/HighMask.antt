-- Masks of all bits from one on.
use Rattle.std.specs.Prelude.{◌≡◌, ◌-◌, ◌<◌, ◌^◌, ℕ}

-- a mask has the bits of a word from the `k`th on, and none before it
abbrev pub IsHighMask : ℕ → Type 0
IsHighMask mask = (k : ℕ) × (k < 32) × (mask ≡ 2 ^ 32 - 2 ^ k)
