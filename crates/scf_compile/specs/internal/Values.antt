-- Values of an argument, and the search for one of them.
use Rattle.std.specs.Prelude.{◌≡◌, ℕ, ◌+◌, ◌-◌, ◌*◌, ◌<◌, ◌≤◌, ◌==◌, All, Bool, List, [], ◌∷◌, ◌++◌, drop, length}
use Rattle.std.specs.Prelude.{if◌then◌else◌}
use Rattle.scf_insn.specs.Architectures.{argument_in, greatest_argument, row_of}
use Rattle.scf_insn.specs.declared.architecture.Architecture.{Architecture}
use Rattle.scf_insn.specs.declared.insn.Insn.{Insn}
use Rattle.scf_insn.specs.declared.record.CallRecord.{CallRecord}
use Rattle.scf_insn.specs.Kernel.{seccomp_data_args}
use Rattle.scf_insn.specs.Words.{IsRecord, high, low, words_of}
use Rattle.scf_profile.specs.declared.rule.Rule.{Rule}
use Rattle.scf_profile.specs.Rule.{all_hold}
use Rattle.scf_compile.specs.declared.placing.Position.{Position}
use Rattle.scf_compile.specs.declared.values.ArgumentValue.{ArgumentValue}
use Rattle.scf_compile.specs.internal.Placing.{code_from}
use Rattle.scf_compile.specs.internal.Runs.{EndsWithin}
use Rattle.scf_compile.specs.internal.Sound.{AreSound}

-- a value of one of the architecture's arguments
pub record IsArgumentValue (a : Architecture) (v : ArgumentValue) : Type 0 where
  pub index : v.index < seccomp_data_args
  pub fits : v.value ≤ greatest_argument (row_of a).bits

-- Exactly the calls in which the argument is the value meet the rule's conditions, and the answer is the rule's.
pub record IsValueOf (a : Architecture) (v : ArgumentValue) (r : Rule) : Type 0 where
  pub fine : IsArgumentValue a v
  pub holds : (call : CallRecord) → all_hold a call r.conditions ≡ (argument_in a call v.index == v.value)
  pub answer : v.answer ≡ r.answer
  pub one_condition : length r.conditions ≡ 1

-- each rule is for the value at its index, of one argument
abbrev pub AreValuesOf : Architecture → ℕ → List ArgumentValue → List Rule → Type 0
AreValuesOf a index [] [] = Unit {0}
AreValuesOf a index (v ∷ vs) (r ∷ rs) = IsValueOf a v r × (v.index ≡ index) × AreValuesOf a index vs rs
AreValuesOf a index _ _ = ⊥

-- The last rules before an index are for these values of one argument.
pub record AreValuesBefore (a : Architecture) (rules : List Rule) (end : ℕ) (values : List ArgumentValue)
    : Type 0 where
  pub argument : ℕ
  pub few : length values ≤ end
  pub value_rules : List Rule
  pub whole : drop (end - length values) rules ≡ value_rules ++ drop end rules
  pub each : AreValuesOf a argument values value_rules

-- the answer of the first value that a number is, else another answer
abbrev pub value_answer : List ArgumentValue → ℕ → ℕ → ℕ
value_answer [] n fallback = fallback
value_answer (v ∷ vs) n fallback = (if n == v.value then v.answer.0 else value_answer vs n fallback)

-- From an index on, the low half of a number, in the accumulator, is looked for among values that have its high half.
-- Where it is none of them, the code at `behind` follows.
pub record IsValueSearchPut (values : List ArgumentValue) (behind : Position) (before after : List Insn)
    (index : Position) : Type 0 where
  pub longer : length before ≤ length after
  pub small : length after ≤ length before + (5 * length values - 2)
  pub stays : (p : Position) → p.0 ≤ length before → code_from p after ≡ code_from p before
  pub some : 0 < index.0
  pub stands : index.0 ≤ length after
  pub front : 0 < length values → index.0 ≡ length after
  pub sound : (asked : Bool) → AreSound asked before → AreSound asked after
  pub ends : (words : List ℕ) (n answer most : ℕ) → All (λ v. high v.value ≡ high n) values → 0 < most
      → ((a : ℕ) → EndsWithin words (code_from behind before) a answer most)
      → EndsWithin words (code_from index after) (low n) (value_answer values n answer) (2 * length values + most)

-- An argument is looked for among its values; if it is none of them, the code that was there before follows.
pub record AreValuesPut (a : Architecture) (values : List ArgumentValue) (before after : List Insn) : Type 0 where
  pub longer : length before ≤ length after
  pub small : length after ≤ length before + 8 * length values
  pub sound : (asked : Bool) → AreSound asked before → AreSound asked after
  pub ends : (call : CallRecord) (index answer most acc : ℕ) → IsRecord call → All (λ v. v.index ≡ index) values
      → 0 < most → ((b : ℕ) → EndsWithin (words_of call) before b answer most)
      → EndsWithin (words_of call) after acc (value_answer values (argument_in a call index) answer)
      (8 * length values + most)
