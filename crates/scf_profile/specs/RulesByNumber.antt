-- The numbers that rules have, and the rules of one number.
use Rattle.std.specs.Prelude.{ℕ, not, ◌==◌, List, [], ◌∷◌}
use Rattle.std.specs.List.{filter}
use Rattle.scf_profile.specs.declared.rule.Rule.{Rule}

-- the distinct numbers, each where it stands first
abbrev pub numbers_of : List Rule → List ℕ
numbers_of [] = []
numbers_of (r ∷ rs) = r.number ∷ filter (λ number. not (number == r.number)) (numbers_of rs)

-- the rules of a number, in their order
abbrev pub rules_of : ℕ → List Rule → List Rule
rules_of number rules = filter (λ r. r.number == number) rules
