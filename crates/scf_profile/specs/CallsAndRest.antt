-- The x86-64 syscalls of a table one by one, and the ranges of numbers that the table doesn't have.
use Rattle.std.specs.Prelude.{◌-◌, ◌+◌, ◌↔◌, ◌⊎◌, ℕ, List, [], ◌∷◌, ◌++◌, map, nat_lt, if◌then◌else◌}
use Rattle.scf_insn.specs.declared.architecture.Architecture.TheVariants.{X8664}
use Rattle.scf_insn.specs.declared.record.CallRecord.{CallRecord}
use Rattle.scf_insn.specs.Kernel.{x32_syscall_bit}
use Rattle.scf_profile.specs.declared.named_call.NamedCall.{NamedCall}
use Rattle.scf_profile.specs.declared.scope.Scope.{Scope}
use Rattle.scf_profile.specs.declared.scope.Scope.TheVariants.{Native, Numbers}
use Rattle.scf_profile.specs.NamedCalls.{AreCallsOf}
use Rattle.scf_profile.specs.Scope.{IsInScope}
use Rattle.scf_profile.specs.Table.{Names}

-- the range from a number on and below another one, if it has any number
abbrev pub range_below : ℕ → ℕ → List Scope
range_below first end = (if nat_lt first end then Numbers X8664 first (end - 1) ∷ [] else [])

-- from a number on: each of rising numbers by itself, and the ranges before, between and behind them
abbrev pub each_and_rest : ℕ → List ℕ → List Scope
each_and_rest first [] = range_below first x32_syscall_bit
each_and_rest first (number ∷ numbers) =
    range_below first number ++ Numbers X8664 number number ∷ each_and_rest (number + 1) numbers

-- the call record is in one of the scopes
abbrev pub IsInOneOf : List Scope → CallRecord → Type 0
IsInOneOf [] call = ⊥
IsInOneOf (scope ∷ scopes) call = IsInScope scope call ⊎ IsInOneOf scopes call

-- The calls of a table and the ranges between them have the native records and no others.
abbrev pub CallsAndRest : Type 0
CallsAndRest =
    (table : Names) (calls : List NamedCall) (call : CallRecord) → AreCallsOf table calls
    → IsInOneOf (each_and_rest 0 (map (λ named. named.number) calls)) call ↔ IsInScope Native call
