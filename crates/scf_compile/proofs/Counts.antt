-- The distinct numbers of a profile's rules: how many there are, and the bounds that their search keeps.
use Rattle.scf_compile.proofs.Common.{◌≡◌, ℕ, zero, suc, ◌+◌, ◌*◌, ◌/◌, ◌^◌, ◌<◌, ◌≤◌, List, [], ◌∷◌, length, map, ap, arith, inl, inr, sum_by, Contains, cases_eq, eq-eqb, ne_eqb, cases_Bool, max, row_of, refl, sum_by-cons, All-head, All-tail, Rule, IsPlainRule, IsPlainProfile, Profile, IsProfile, IsRule, numbers_of, number_there, rules_of, Answer, NrRange, digits_within, binary_digits, greatest, rule_bound, stub_count, number_count, stub_answer, AreServed, AreRangesOf, AreSearched, AreSearchesOf, IsSearchOf, IsSearchPut, Insn, Position, Search, code_from, MayBePut, most_ranges, size_bound_of, nat_tests, common_steps}
use Rattle.scf_insn.proofs.Architectures.{some_number}
use Rattle.scf_compile.proofs.Runs.{more}
use Rattle.scf_compile.proofs.Sizes.{rules_valid, size_small}
use Rattle.scf_compile.proofs.Stubs.{own_bounded, own_first, own_rules, own_served, own_wanted, stub_bound, stub_there}

-- ---- binary digits

digits_reach : (most n : ℕ) → n ≤ most → n < 2 ^ digits_within most n
digits_reach zero n le = omega arith
digits_reach (suc most) n le =
    elim (cases_eq n 0) [
      | inl none ↦ rw (eq-eqb n 0 none) (omega arith)
      | inr some ↦
          let half = digits_reach most (n / 2) (omega arith) in
          let whole : n < 2 ^ suc (digits_within most (n / 2)) = omega arith in rw (ne_eqb n 0 some) whole
    ]

pub below_digits : (n : ℕ) → n < 2 ^ binary_digits n
unfolding binary_digits
below_digits n = digits_reach n n (omega arith)

-- ---- the sums of one number's rules

at_most_greatest : (f : ℕ → ℕ) (ns : List ℕ) (n : ℕ) → Contains ns n → f n ≤ greatest (map f ns)
at_most_greatest f [] n h = absurd (let lt : h.0 < 0 = h.1 in omega arith)
at_most_greatest f (m ∷ ns) n (zero, lt, e) = let same : f m ≡ f n = ap f e in omega arith
at_most_greatest f (m ∷ ns) n (suc k, lt, e) = omega (arith, at_most_greatest f ns n (k, omega arith, e))

abbrev sum_of : List Rule → ℕ → ℕ
sum_of rules number = sum_by rule_bound (rules_of number rules)

pub sum_at_most : (rules : List Rule) (nr : ℕ) → sum_of rules nr ≤ greatest (map (sum_of rules) (numbers_of rules))
sum_at_most rules nr =
    elim (number_there nr rules) [
      | inl named ↦ at_most_greatest (sum_of rules) (numbers_of rules) nr named
      | inr none ↦ let nothing : sum_of rules nr ≡ 0 = ap (sum_by rule_bound) none in omega arith
    ]

-- ---- the search of a profile

pub some_served : (default : Answer) (wanted : ℕ → List Rule) (low high : ℕ) (ss : List NrRange) → low < high
    → AreServed default wanted low ss high → 0 < length ss
some_served default wanted low high ss h h2 = grind (arith, common_steps, nat_tests)

-- where searches stand, they stay when code is put before them
pub searches_stay : (before after : List Insn) → length before ≤ length after
    → ((p : Position) → p.0 ≤ length before → code_from p after ≡ code_from p before) → (ps : List Profile)
    → (ss : List Search) → AreSearchesOf before ps ss → AreSearchesOf after ps ss
searches_stay before after longer stays [] [] each = tt
searches_stay before after longer stays [] (s ∷ ss) each = each
searches_stay before after longer stays (p ∷ ps) [] each = each
searches_stay before after longer stays (p ∷ ps) (s ∷ ss) each = grind (arith, common_steps, nat_tests, searches_stay before after longer stays ps ss each.1)

-- the steps for the rules of a number, or for the stub's rule
pub own_steps : (p : Profile) (s : Rule) → s.conditions ≡ [] → (nr : ℕ)
    → sum_by rule_bound (own_wanted p s nr) ≤ max (2 * stub_count p.stub) (greatest (map (sum_of p.rules) (numbers_of p.rules)))
own_steps p s always nr = grind (arith, common_steps, nat_tests, cases_Bool, stub_bound, stub_there, sum_at_most)

module _ (p : Profile) (valid : IsProfile p) (s : Rule) (rule : IsRule p.architecture s) (always : s.conditions ≡ [])
    (answers : s.answer.0 ≡ stub_answer) (ss : List NrRange) (laid : AreRangesOf p (s ∷ []) ss) where
  abbrev count : ℕ
  count = number_count p

  pub may_be_put : MayBePut p ss
  may_be_put = record {
    some = some_served _ _ _ _ ss (omega (arith, some_number p.architecture)) (own_served p s always laid);
    few = omega (arith, own_bounded p s always laid);
    rules = own_rules p s always laid (IsRule p.architecture) (rules_valid p valid) rule;
    small = omega (arith, own_bounded p s always laid, size_small p valid);
  }

  -- The search of the ranges is that of the profile.
  pub search_of_profile : {before code : List Insn} {index : Position}
      → IsSearchPut p.architecture p.default_answer (most_ranges p) ss before code index
      → IsSearchOf p code (record { architecture = p.architecture; index = index })
  search_of_profile search_put = record {
    architecture = refl;
    some = search_put.put.some;
    stands = search_put.put.near.stands;
    ends = λ call fits is_of.
        let few = below_digits count in
        more (rw (own_first p s always call answers) at (search_put.ends call (own_wanted p s) (row_of p.architecture).first
        ((row_of p.architecture).last + 1) (suc (binary_digits count)) fits (own_served p s always laid) is_of.first
        (omega (arith, is_of.last)) (omega (arith, few)))) (omega (arith, own_steps p s always call.nr));
  }

  -- It is put before those of other profiles.
  pub searched_more : {before code : List Insn} {index : Position} {others : List Profile} {searches : List Search}
      → AreSearched others before searches
      → IsSearchPut p.architecture p.default_answer (most_ranges p) ss before code index
      → AreSearched (p ∷ others) code (record { architecture = p.architecture; index = index } ∷ searches)
  searched_more {others} {searches} before search_put = record {
    each = (search_of_profile search_put, searches_stay _ _ search_put.put.longer search_put.put.stays others searches before.each);
    small = omega (
      arith,
      search_put.small,
      own_bounded p s always laid,
      before.small,
      sum_by-cons size_bound_of p others,
    );
    sound = λ asked is.
        search_put.put.sound asked
        (λ e. own_rules p s always laid IsPlainRule (All-head IsPlainProfile p others (is e)) plain)
        (before.sound asked (λ e. All-tail IsPlainProfile p others (is e)));
  } where
    plain : IsPlainRule s
    plain = record { conditions = rw always (λ k d lt. absurd (omega arith)) }
