-- The limits of texts, of their numbers and of profiles.
use Rattle.std.specs.Prelude.{ℕ, ℤ, pos, negsuc, Option, Some, None, nat_lt, if◌then◌else◌}

-- the greatest errno: the data of an answer have 16 bits
abbrev pub max_errno : ℕ
max_errno = 65535

-- the most bytes of the text of a profile
abbrev pub max_text_len : ℕ
max_text_len = 4194304

-- the most rules of a profile
abbrev pub max_rules : ℕ
max_rules = 4096

-- a whole number from 0 on, where it is below a limit
abbrev pub number_below : ℕ → ℤ → Option ℕ
number_below limit (pos number) = if nat_lt number limit then Some number else None
number_below limit (negsuc number) = None
