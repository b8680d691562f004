-- How long the code of a filter is.
use Rattle.scf_compile.proofs.Common.{◌≡◌, ℕ, ◌<◌, ◌≤◌, ◌^◌, Bool, true, false, not, eqb, List, [], ◌∷◌, length, map, get_or, refl, arith, inl, inr, All, AllByRecursion, list_any, cases_eq, ne_eqb, ◌≢◌, All-from_recursion, All-map, recursion_from_All, length-map, length-le_from_distinct_below, length-filter_both, sum_by-le, Condition, Rule, IsRule, IsCondition, AreConditions, HaveDistinctIndices, Option, numbers_of, rule_bound, number_count, stub_count, Profile, IsProfile, size_bound_of, size_bound_of_each, sum_by-cons, nat_tests, common_steps}
use Rattle.std.specs.List.{IsDistinct}

-- ---- no more than six conditions

distinct : (cs : List Condition) → HaveDistinctIndices cs → IsDistinct eqb (map (λ c. c.index) cs)
unfolding IsDistinct
distinct [] h = tt
distinct (c ∷ cs) h =
    let P : ℕ → Type 0 = λ i. eqb c.index i ≡ false in
    let apart = All-map P (λ (d : Condition). d.index) cs
    (λ k d lt. ne_eqb c.index _ (All-from_recursion (λ d. c.index ≢ d.index) cs h.0 k d lt)) in
    (recursion_from_All P (map (λ d. d.index) cs) apart, distinct cs h.1)

below_six : (cs : List Condition) (i : ℕ) → AllByRecursion IsCondition cs
    → list_any (eqb i) (map (λ c. c.index) cs) ≡ true → i < 6
below_six [] i fine h = absurd (cc)
below_six (c ∷ cs) i fine h =
    elim (cases_eq i c.index) [
      | inl same ↦ let lt = fine.0.index in omega arith
      | inr differs ↦ below_six cs i fine.1 (rw (ne_eqb i c.index differs) at h)
    ]

-- conditions on the six arguments, one on each, are six at most
pub few_conditions : (cs : List Condition) → AreConditions cs → length cs ≤ 6
few_conditions cs fine =
    let few = length-le_from_distinct_below (map (λ c. c.index) cs) 6 (distinct cs fine.distinct)
    (λ i h. below_six cs i fine.each h) in
    omega (arith, few, length-map cs (λ (c : Condition). c.index))

-- ---- the bound

few_numbers : (rs : List Rule) → length (numbers_of rs) ≤ length rs
few_numbers [] = omega arith
few_numbers (r ∷ rs) =
    let others : ℕ → Bool = λ number. not (eqb number r.number) in
    let fewer = length-filter_both others (λ number. not (others number)) (λ number. refl) (numbers_of rs) in
    omega (arith, few_numbers rs)

pub rules_valid : (p : Profile) → IsProfile p → All (IsRule p.architecture) p.rules
rules_valid p valid = All-from_recursion (IsRule p.architecture) p.rules valid.each

stub_few : (stub : Option ℕ) → stub_count stub ≤ 1
stub_few stub = grind (arith, common_steps, nat_tests)

pub count_small : (p : Profile) → IsProfile p → number_count p < 2 ^ 32
count_small p valid = omega (arith, few_numbers p.rules, stub_few p.stub, valid.few)

pub size_small : (p : Profile) → IsProfile p → size_bound_of p < 2 ^ 18
size_small p valid =
    let most = sum_by-le rule_bound 50 p.rules (λ k d lt.
    omega (arith, few_conditions (get_or p.rules k d).conditions (rules_valid p valid k d lt).conditions)) in
    omega (arith, few_numbers p.rules, stub_few p.stub, valid.few)

-- each profile's bound is more than one
pub at_least_each : (ps : List Profile) → length ps ≤ size_bound_of_each ps
at_least_each [] = omega arith
at_least_each (p ∷ ps) = omega (arith, at_least_each ps, sum_by-cons size_bound_of p ps)
