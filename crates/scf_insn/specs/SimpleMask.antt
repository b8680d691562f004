-- Masks that a comparison can be decided by exactly.
use Rattle.std.specs.Prelude.{◌≡◌, ℕ, ◌-◌, ◌^◌, ◌<◌, ◌⊎◌}

-- no bit, one bit or all of the 32
abbrev pub IsSimpleMask : ℕ → Type 0
IsSimpleMask mask = (mask ≡ 0) ⊎ ((k : ℕ) × (k < 32) × (mask ≡ 2 ^ k)) ⊎ (mask ≡ 2 ^ 32 - 1)
