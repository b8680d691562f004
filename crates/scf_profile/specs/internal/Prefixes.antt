-- The first bytes of a text as one number.
use Rattle.std.specs.Prelude.{◌≡◌, ℕ, zero, suc, ◌+◌, ◌*◌, ◌<◌, List, slice_index}

-- a number with so many bytes of a text, from an index on, behind it as digits to the base 256; zeros stand behind a
-- shorter text
abbrev pub with_bytes : ℕ → ℕ → ℕ → List ℕ → ℕ
with_bytes zero index number text = number
with_bytes (suc count) index number text = with_bytes count (suc index) (number * 256 + slice_index text index) text

-- the first eight bytes, the first one greatest
abbrev pub prefix_of : List ℕ → ℕ
prefix_of text = with_bytes 8 0 0 text

-- the prefix of a text, whose first eight elements are bytes
pub record IsPrefixOf (text : List ℕ) (prefix : ℕ) : Type 0 where
  pub number : prefix ≡ prefix_of text
  pub bytes : (i : ℕ) → i < 8 → slice_index text i < 256
