-- Conditions on one argument.
use Rattle.scf_profile.proofs.Common.{◌≡◌, ◌≢◌, ℕ, ◌<◌, ◌≤◌, ◌^◌, ◌↔◌, true, List, [], ◌∷◌, eqb, Option, Some, None, sym, ◌∙◌, arith, inl, inr, AllByRecursion, find, and_parts, cases_eq, cases_lt, eq-eqb, ne_eqb, get_or_past, All-cons, All-from_recursion, All-head, All-nil, All-tail, list_all-from_AllPass, Architecture, ArgumentBits, greatest_argument, taken_of, row_of, argument_in, CallRecord, IsRecord, argument, Condition, Rule, condition_holds, seccomp_data_args, Conflicts, HaveDistinctIndices, IsCondition, IsRule, all_hold, HoldAt, Overlap, nat_tests, common_steps}

-- what holds of a condition where it is on the argument
abbrev HoldsOn : ℕ → ℕ → Condition → Type 0
HoldsOn index n c = c.index ≡ index → condition_holds c n ≡ true

-- the one condition on an argument says what all do, and where none is on it any number will do
abbrev HoldByOne : List Condition → ℕ → ℕ → Option Condition → Type 0
HoldByOne cs index n None = HoldAt cs index n
HoldByOne cs index n (Some c) = (condition_holds c n ≡ true) ↔ HoldAt cs index n

by_others : (c : Condition) (cs : List Condition) (index n : ℕ) → HoldsOn index n c → (first : Option Condition)
    → HoldByOne cs index n first → HoldByOne (c ∷ cs) index n first
by_others c cs index n here None all = All-cons (HoldsOn index n) c cs here all
by_others c cs index n here (Some d) same =
    (λ held. All-cons (HoldsOn index n) c cs here (same.0 held), λ all. same.1 (All-tail (HoldsOn index n) c cs all))

hold_by_first : (cs : List Condition) (index n : ℕ) → HaveDistinctIndices cs
    → HoldByOne cs index n (find (λ c. eqb c.index index) cs)
hold_by_first [] index n h = All-nil (HoldsOn index n)
hold_by_first (c ∷ cs) index n h =
    elim (cases_eq c.index index) [
      | inl same ↦ rw (eq-eqb c.index index same) (
        λ held. All-cons (HoldsOn index n) c cs (λ _. held)
            (λ k d lt on. absurd (All-from_recursion (λ e. c.index ≢ e.index) cs h.0 k d lt (same ∙ sym on))),
        λ all. All-head (HoldsOn index n) c cs all same,
      )
      | inr apart ↦ rw (ne_eqb c.index index apart)
          (by_others c cs index n (λ on. absurd (apart on)) _ (hold_by_first cs index n h.1))
    ]

pub hold_by_found : (cs : List Condition) (index n : ℕ) → HaveDistinctIndices cs → (first : Option Condition)
    → first ≡ find (λ c. eqb c.index index) cs → HoldByOne cs index n first
hold_by_found cs index n h first is = rw is (hold_by_first cs index n h)

-- ---- two rules

-- the conditions of a rule that a call meets
held_at : (a : Architecture) (call : CallRecord) (cs : List Condition) → all_hold a call cs ≡ true → (i : ℕ)
    → HoldAt cs i (argument_in a call i)
held_at a call cs all i k c below on = grind (arith, common_steps, nat_tests)

-- a call of whose arguments the conditions hold
all_held : (a : Architecture) (call : CallRecord) (cs : List Condition) → AllByRecursion IsCondition cs
    → ((i : ℕ) → i < seccomp_data_args → HoldAt cs i (argument_in a call i)) → all_hold a call cs ≡ true
all_held a call cs each held = grind (arith, common_steps, nat_tests, list_all-from_AllPass)

-- an argument is all that is taken of it
taken_whole : (bits : ArgumentBits) (n : ℕ) → n ≤ greatest_argument bits → (taken_of bits n ≡ n) × (n < 2 ^ 64)
taken_whole bits n h = grind (arith, common_steps, nat_tests)

argument_fits : (bits : ArgumentBits) (n : ℕ) → n < 2 ^ 64 → taken_of bits n ≤ greatest_argument bits
argument_fits bits n h = grind (arith, common_steps, nat_tests)

-- a number for each argument makes a call that meets both rules
module _ (a : Architecture) (r s : Rule) (of_r : IsRule a r) (of_s : IsRule a s)
    (overlap : Overlap (row_of a).bits r.conditions s.conditions) where
  abbrev number : (i : ℕ) → i < seccomp_data_args → ℕ
  number i lt = (overlap i lt).number

  abbrev call : CallRecord
  call = record {
    nr = r.number;
    arch = 0;
    ip = 0;
    args =
        number 0 (omega arith) ∷ number 1 (omega arith) ∷ number 2 (omega arith) ∷ number 3 (omega arith)
        ∷ number 4 (omega arith) ∷ number 5 (omega arith) ∷ [];
  }

  -- what holds of each number with its index holds of the arguments with theirs
  at_arguments : (P : ℕ → ℕ → Type 0) → ((i : ℕ) (lt : i < seccomp_data_args) → P i (number i lt))
      → (i : ℕ) → i < seccomp_data_args → P i (argument call i)
  at_arguments P h i h2 = grind (arith, common_steps, nat_tests)

  -- and of what the architecture takes of them
  at_taken : (cs : List Condition) → ((i : ℕ) (lt : i < seccomp_data_args) → HoldAt cs i (number i lt))
      → (i : ℕ) → i < seccomp_data_args → HoldAt cs i (argument_in a call i)
  at_taken cs h i lt = at_arguments (λ j n. HoldAt cs j (taken_of (row_of a).bits n))
      (λ j lt. rw (taken_whole (row_of a).bits (number j lt) (overlap j lt).fits).0 (h j lt)) i lt

  fits : IsRecord call
  fits = grind (arith, common_steps, nat_tests, cases_lt, at_arguments, taken_whole, get_or_past)

  pub conflict_from : r.number ≡ s.number → r.answer ≢ s.answer → Conflicts a r s
  conflict_from same apart = grind (arith, fits, all_hold, eq-eqb, all_held, at_taken)

pub overlap_of_conflict : (a : Architecture) (r s : Rule) → Conflicts a r s
    → Overlap (row_of a).bits r.conditions s.conditions
overlap_of_conflict a r s conflict i lt = record {
  number = argument_in a conflict.call i;
  fits = argument_fits (row_of a).bits (argument conflict.call i) (conflict.is_record.args i);
  first = held_at a conflict.call r.conditions (and_parts _ _ conflict.meets_first).1 i;
  second = held_at a conflict.call s.conditions (and_parts _ _ conflict.meets_second).1 i;
}
