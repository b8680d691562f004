-- A count of instructions that the filter of a profile, or of several, stays within.
use Rattle.std.specs.Prelude.{ℕ, ◌+◌, ◌*◌, List, Option, Some, None, length, sum_by}
use Rattle.scf_profile.specs.declared.rule.Rule.{Rule}
use Rattle.scf_profile.specs.Profile.{Profile}
use Rattle.scf_profile.specs.RulesByNumber.{numbers_of}

-- 2, and 8 for each condition of a rule
abbrev pub rule_bound : Rule → ℕ
rule_bound r = 2 + 8 * length r.conditions

-- a stub counts as one number more
abbrev pub stub_count : Option ℕ → ℕ
stub_count None = 0
stub_count (Some first) = 1

-- the distinct numbers of the rules, and one for a stub
abbrev pub number_count : Profile → ℕ
number_count p = length (numbers_of p.rules) + stub_count p.stub

-- 8, and 4 for each distinct number, and for each rule 2 and 8 for each of its conditions; a stub counts as one number
-- more, with a rule that has no condition
abbrev pub size_bound_of : Profile → ℕ
size_bound_of p = 8 + 4 * number_count p + (sum_by rule_bound p.rules + 2 * stub_count p.stub)

-- the sum of those of several profiles
abbrev pub size_bound_of_each : List Profile → ℕ
size_bound_of_each profiles = sum_by size_bound_of profiles
