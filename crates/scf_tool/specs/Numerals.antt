-- How the program writes numbers in hexadecimal.
use Rattle.std.specs.Prelude.{ℕ, ◌/◌, ◌%◌, ◌^◌, false, List, [], ◌∷◌, map}
use Rattle.std.specs.Fmt.{digit_glyph}

-- the last eight hexadecimal digits, in lower case
abbrev pub eight_digits : ℕ → List ℕ
eight_digits n = map (λ index. digit_glyph false (n / 16 ^ index % 16)) (7 ∷ 6 ∷ 5 ∷ 4 ∷ 3 ∷ 2 ∷ 1 ∷ 0 ∷ [])
