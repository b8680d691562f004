-- Numbers that are cut at 2^64-1.
use Rattle.scf_compare.proofs.Common.{◌≡◌, ℕ, ◌+◌, ◌*◌, ◌-◌, ◌<◌, ◌≤◌, List, length, drop, get_or, refl, arith, slice_get-get_or, slice_get_read, Equal, Condition, Rule, conditions_size, rules_size, saturated, paths_count, side_size_counts, spread_counts}
use Rattle.scf_compare.proofs.Numbered.{no_condition}
use Rattle.scf_profile.specs.Profile.{Profile}
use Rattle.scf_compare.specs.Effort.{spread, spread_in_turn}
use Rattle.scf_compare.proofs.Rules.{conditions_more, drop_here, rules_more}

pub multiplied : (a b x y : ℕ) → 0 < x → 0 < y → a ≡ saturated x → b ≡ saturated y
    → saturated (a * b) ≡ saturated (x * y)
multiplied a b x y some_x some_y e f = grind arith

-- the conditions from one on, by those behind it
pub conditions_step : (conditions : List Condition) (index behind : ℕ) → 0 < index → index ≤ length conditions
    → conditions_size (drop (index - 1) conditions) behind
    ≡ 3 + 2 * conditions_size (drop index conditions) behind + 2 * behind
conditions_step conditions index behind some within =
    grind (arith, conditions_more conditions (index - 1), slice_get-get_or conditions (index - 1) no_condition)

-- the rules from one on, by those behind it
pub rules_step : (rules : List Rule) (index : ℕ) (r : Rule) → 0 < index → index ≤ length rules
    → r ≡ get_or rules (index - 1) r
    → rules_size (drop (index - 1) rules) ≡ conditions_size r.conditions (rules_size (drop index rules))
rules_step rules index r some within is =
    grind (arith, rules_more rules (index - 1) r, slice_get_read rules (length rules) (index - 1) r refl)

pub conditions_added : (size fails twice first second third x behind : ℕ) → size ≡ saturated x
    → fails ≡ saturated behind → twice ≡ saturated (fails + fails) → first ≡ saturated (size + size)
    → second ≡ saturated (first + twice) → third ≡ saturated (second + 3) → third ≡ saturated (3 + 2 * x + 2 * behind)
conditions_added size fails twice first second third x behind a b c d e f = omega arith

-- the profiles from one on, by those behind it
pub spreads_before : (behind : ℕ) (profiles : List Profile) (index : ℕ) (p : Profile) → 0 < index
    → index ≤ length profiles → p ≡ get_or profiles (index - 1) p
    → spread_in_turn behind (drop (index - 1) profiles) ≡ spread p + 3 * spread_in_turn behind (drop index profiles)
spreads_before behind profiles index p some within is =
    grind (arith, drop_here profiles (index - 1) p, slice_get_read profiles (length profiles) (index - 1) p refl)

pub spreads_step : (sum own third more x y : ℕ) → sum ≡ saturated x → own ≡ saturated y → third ≡ saturated (sum * 3)
    → more ≡ saturated (third + own) → more ≡ saturated (y + 3 * x)
spreads_step sum own third more x y a b c d = omega arith

pub ruleset products = (multiplied, paths_count, side_size_counts, spread_counts)
