-- How numbers are written: decimal digits, or `0x` and hexadecimal ones.
use Rattle.std.specs.Prelude.{◌≡◌, ℕ, ◌^◌, ◌≤◌, ◌==◌, ◌&&◌, ◌||◌, Bool, List, length, drop, Option, Some, None}
use Rattle.std.specs.Prelude.{Result, Ok, Err, nat_lt, slice_index, if◌then◌else◌}
use Rattle.std.specs.List.{list_all}
use Rattle.std.specs.Char.{is_digit}
use Rattle.std.specs.Str.Parse.{digits_value}
use Rattle.scf_insn.specs.declared.number.NumeralFault.{NumeralFault}
use Rattle.scf_insn.specs.declared.number.NumeralFault.TheVariants.{Malformed, TooLarge}

-- the number that digits of a radix write: one at least, and nothing but digits
abbrev pub numeral : ℕ → List ℕ → Option ℕ
numeral radix digits =
    if nat_lt 0 (length digits) && list_all (λ digit. is_digit digit radix) digits
    then Some (digits_value radix digits) else None

-- `0x` or `0X` stands in front
abbrev pub has_hex_prefix : List ℕ → Bool
has_hex_prefix text = slice_index text 0 == 48 && (slice_index text 1 == 120 || slice_index text 1 == 88)

-- the number that a text is, where it is one: leading zeros are allowed, and any length
unfoldable pub number_of : List ℕ → Option ℕ
number_of text = if has_hex_prefix text then numeral 16 (drop 2 text) else numeral 10 text

-- The number is read where it is below 2^64. Else it is too large, and where there is none the text is malformed.
abbrev pub ReadsNumber : Option ℕ → Result ℕ NumeralFault → Type 0
ReadsNumber (Some n) (Ok value) = value ≡ n
ReadsNumber (Some n) (Err TooLarge) = 2 ^ 64 ≤ n
ReadsNumber (Some n) (Err Malformed) = ⊥
ReadsNumber None (Ok value) = ⊥
ReadsNumber None (Err TooLarge) = ⊥
ReadsNumber None (Err Malformed) = Unit {0}
