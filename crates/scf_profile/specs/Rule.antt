-- Which calls of an architecture a rule meets, and when two rules conflict.
use Rattle.std.specs.Prelude.{◌≡◌, ◌≢◌, ◌<◌, ◌≤◌, ◌^◌, Bool, true, ◌&&◌, ◌==◌, List, [], ◌∷◌}
use Rattle.std.specs.List.{list_all, AllByRecursion}
use Rattle.scf_insn.specs.Architectures.{argument_in, row_of}
use Rattle.scf_insn.specs.declared.architecture.Architecture.{Architecture}
use Rattle.scf_insn.specs.declared.record.CallRecord.{CallRecord}
use Rattle.scf_insn.specs.Kernel.{seccomp_data_args}
use Rattle.scf_insn.specs.Words.{IsRecord}
use Rattle.scf_profile.specs.declared.condition.Condition.{Condition}
use Rattle.scf_profile.specs.declared.rule.Rule.{Rule}
use Rattle.scf_profile.specs.Condition.{condition_holds}

-- each condition holds of the argument at its index
abbrev pub all_hold : Architecture → CallRecord → List Condition → Bool
all_hold architecture call conditions =
    list_all (λ c. condition_holds c (argument_in architecture call c.index)) conditions

-- the call has the rule's number, and all its conditions hold
abbrev pub meets : Architecture → Rule → CallRecord → Bool
meets architecture r call = (call.nr == r.number) && all_hold architecture call r.conditions

-- some call record meets both rules, and their answers differ
pub record Conflicts (architecture : Architecture) (r s : Rule) : Type 0 where
  pub call : CallRecord
  pub is_record : IsRecord call
  pub meets_first : meets architecture r call ≡ true
  pub meets_second : meets architecture s call ≡ true
  pub answer : r.answer ≢ s.answer

pub record IsCondition (c : Condition) : Type 0 where
  pub index : c.index < seccomp_data_args
  pub value : c.value < 2 ^ 64
  pub value_two : c.value_two < 2 ^ 64

-- no index stands twice
abbrev pub HaveDistinctIndices : List Condition → Type 0
HaveDistinctIndices [] = Unit {0}
HaveDistinctIndices (c ∷ cs) = AllByRecursion (λ d. c.index ≢ d.index) cs × HaveDistinctIndices cs

-- conditions on the arguments, at most one on each
pub record AreConditions (conditions : List Condition) : Type 0 where
  pub each : AllByRecursion IsCondition conditions
  pub distinct : HaveDistinctIndices conditions

-- a number of the architecture's calls, an answer of 32 bits, and conditions
pub record IsRule (architecture : Architecture) (r : Rule) : Type 0 where
  pub first : (row_of architecture).first ≤ r.number
  pub last : r.number ≤ (row_of architecture).last
  pub answer : r.answer.0 < 2 ^ 32
  pub conditions : AreConditions r.conditions
