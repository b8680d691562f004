-- Numbers as they are read.
use Rattle.std.specs.Prelude.{◌≡◌, ℕ, ◌^◌, ◌≤◌, Option, Some, None}

-- The value is the number, and none stands for a number past 2^64-1.
abbrev pub IsWithinRange : Option ℕ → ℕ → Type 0
IsWithinRange (Some value) n = value ≡ n
IsWithinRange None n = 2 ^ 64 ≤ n
