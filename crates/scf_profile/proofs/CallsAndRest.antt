-- The calls of a table and the ranges between them.
use Rattle.scf_profile.proofs.Common.{common_steps, nat_tests, ℕ, ◌+◌, ◌-◌, ◌<◌, ◌≤◌, ◌⊎◌, Bool, cond, List, [], ◌∷◌, ◌++◌, arith, inl, inr, cases_eq, cases_lt, ltb, lt-ltb, CallRecord, IsOf, x32_syscall_bit}
use Rattle.scf_profile.specs.CallsAndRest.{CallsAndRest, IsInOneOf, each_and_rest, range_below}
use Rattle.scf_insn.specs.declared.architecture.Architecture.TheVariants.{X8664}
use Rattle.scf_profile.specs.declared.scope.Scope.{Scope}
use Rattle.scf_profile.specs.declared.scope.Scope.TheVariants.{Numbers}

-- what is in a scope of one list is in one of both
in_first : (some others : List Scope) (call : CallRecord) → IsInOneOf some call → IsInOneOf (some ++ others) call
in_first [] others call within = absurd within
in_first (scope ∷ some) others call (inl here) = inl here
in_first (scope ∷ some) others call (inr there) = inr (in_first some others call there)

in_second : (some others : List Scope) (call : CallRecord) → IsInOneOf others call → IsInOneOf (some ++ others) call
in_second [] others call within = within
in_second (scope ∷ some) others call within = inr (in_second some others call within)

in_either : (some others : List Scope) (call : CallRecord) → IsInOneOf (some ++ others) call
    → IsInOneOf some call ⊎ IsInOneOf others call
in_either [] others call within = inr within
in_either (scope ∷ some) others call (inl here) = inl (inl here)
in_either (scope ∷ some) others call (inr there) =
    grind (arith, common_steps, nat_tests, in_either some others call there)

range_has : (first end : ℕ) (call : CallRecord) → IsOf X8664 call → first ≤ call.nr → call.nr < end
    → IsInOneOf (range_below first end) call
range_has first end call native low high = grind (arith, common_steps, nat_tests, lt-ltb)

only_native : (some : Bool) (first last : ℕ) (call : CallRecord)
    → IsInOneOf (cond some (Numbers X8664 first last ∷ []) []) call → IsOf X8664 call
only_native some first last call h = grind (arith, common_steps, nat_tests)

-- a native record from a number on is in one of the scopes
covered : (first : ℕ) (numbers : List ℕ) (call : CallRecord) → IsOf X8664 call → first ≤ call.nr
    → IsInOneOf (each_and_rest first numbers) call
covered first [] call native low = range_has first x32_syscall_bit call native low (omega (arith, native.last))
covered first (number ∷ numbers) call native low =
    let before = range_below first number in
    let here = Numbers X8664 number number ∷ each_and_rest (number + 1) numbers in
    elim (cases_lt call.nr number) [
      | inl below ↦ in_first before here call (range_has first number call native low below)
      | inr least ↦ in_second before here call (elim (cases_eq call.nr number) [
        | inl same ↦ inl (native, omega (arith, same), omega (arith, same))
        | inr past ↦ inr (covered (number + 1) numbers call native (omega (arith, past)))
      ])
    ]

-- each of the scopes has native records alone
all_native : (first : ℕ) (numbers : List ℕ) (call : CallRecord)
    → IsInOneOf (each_and_rest first numbers) call → IsOf X8664 call
all_native first [] call within = grind (arith, common_steps, nat_tests, only_native, x32_syscall_bit)
all_native first (number ∷ numbers) call within =
    elim (in_either (range_below first number) (Numbers X8664 number number ∷ each_and_rest (number + 1) numbers) call within) [
      | inl before ↦ only_native (ltb first number) first (number - 1) call before
      | inr later ↦ elim later [
        | inl here ↦ here.0
        | inr behind ↦ all_native (number + 1) numbers call behind
      ]
    ]

pub covers : CallsAndRest
covers table calls call are = grind (arith, common_steps, nat_tests, all_native, covered)
