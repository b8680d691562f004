-- The reason of an answer.
use Rattle.scf_profile.proofs.Common.{◌≡◌, ℕ, zero, suc, ◌≤◌, ◌<◌, inl, inr, List, [], ◌∷◌, Option, Some, None, common_steps, refl, ap, arith, min, All, length, Contains, filter, fold, reduce, AllByRecursion, Architecture, cases_lt, false, false_from_ne_true, length-map, CallRecord, IsRecord, Reason, Rule, meets, Profile, HaveNoConflict, ProfileAnswers, entries_met, IsReason, IsAnswerOf, nat_tests}
use Rattle.std.specs.Option.{unwrap_or}
use Rattle.scf_profile.proofs.Answering.{only_default, only_foreign, only_rule, only_stub}
use Rattle.scf_profile.proofs.Numbers.{contains_filtered}

least_of_fold : (n : ℕ) (numbers : List ℕ) → Contains (n ∷ numbers) (fold min n numbers)
    × AllByRecursion (λ m. fold min n numbers ≤ m) (n ∷ numbers)
least_of_fold n [] = ((0, omega arith, refl), (omega arith, tt))
least_of_fold n (m ∷ numbers) =
    let smaller = least_of_fold (min n m) numbers in
    let below : fold min (min n m) numbers ≤ min n m = smaller.1.0 in
    (among (fold min (min n m) numbers) smaller.0, (omega arith, (omega arith, smaller.1.1)))
  where
    among : (l : ℕ) → Contains (min n m ∷ numbers) l → Contains (n ∷ m ∷ numbers) l
    among l (zero, inside, is) = elim (cases_lt n m) [
      | inl lt ↦ let same : n ≡ l = omega (arith, is) in (0, omega arith, same)
      | inr le ↦ let same : m ≡ l = omega (arith, is) in (1, omega arith, same)
    ]
    among l (suc k, inside, is) = (suc (suc k), omega (arith, inside), is)

-- the least of numbers is one of them, and none is below it
pub least_of : (numbers : List ℕ) (least : ℕ) → reduce min numbers ≡ Some least
    → Contains numbers least × All (λ number. least ≤ number) numbers
least_of numbers least h = grind (arith, common_steps, nat_tests, least_of_fold)

-- the least of numbers, and of one before them if there is one
abbrev pub least_with : Option ℕ → List ℕ → Option ℕ
least_with None numbers = reduce min numbers
least_with (Some least) numbers = Some (fold min least numbers)

pub least_with_next : (least : Option ℕ) (n : ℕ) (numbers : List ℕ)
    → least_with least (n ∷ numbers) ≡ least_with (Some (min (unwrap_or least n) n)) numbers
least_with_next least n numbers = grind (arith, common_steps, nat_tests)

pub least_with_none : (least : Option ℕ) → least_with least [] ≡ least
least_with_none least = grind (arith, common_steps, nat_tests)

pub ruleset least_steps = (common_steps, least_with_next, least_with_none)

-- where no entry has a rule that is met, no rule is
unmet_by_none : (a : Architecture) (rules : List Rule) (call : CallRecord) → entries_met a rules call ≡ []
    → (r : Rule) → Contains rules r → meets a r call ≡ false
unmet_by_none a rules call none r has = false_from_ne_true _ (λ met.
    let among = contains_filtered (λ s. meets a s call) rules r met has in
    let inside : among.0 < length (filter (λ s. meets a s call) rules) = among.1 in
    let empty = simp length-map at (ap length none) in
    omega arith)

-- the answer is that of its reason
pub answer_of_reason : (p : Profile) (call : CallRecord) (reason : Reason) (answer : ℕ)
    → HaveNoConflict p.architecture p.rules → IsRecord call → IsReason p call reason → ProfileAnswers p call answer
    → IsAnswerOf p call reason answer
answer_of_reason p call reason answer h h2 h3 h4 = grind (arith, common_steps, nat_tests, only_foreign, only_stub, only_rule, only_default, unmet_by_none)
