-- A profile as a tree of questions, whose numbers are asked in their order, and the rules of one in theirs.
use Rattle.std.specs.Prelude.{◌≡◌, ◌≢◌, ◌+◌, ◌*◌, ◌-◌, ◌<◌, ◌≤◌, ◌^◌, ℕ, List, [], true, false, All, Some, length, map, take, drop, slice_get, slice_index_or, sum_by}
use Rattle.scf_insn.specs.Architectures.{IsOf, argument_in, row_of}
use Rattle.scf_insn.specs.declared.record.CallRecord.{CallRecord}
use Rattle.scf_insn.specs.Words.{call_of}
use Rattle.scf_profile.specs.declared.condition.Condition.{Condition}
use Rattle.scf_profile.specs.declared.number_rules.NumberRules.{NumberRules}
use Rattle.scf_profile.specs.NumberTests.{test_of}
use Rattle.scf_profile.specs.Rule.{all_hold, meets}
use Rattle.scf_compare.specs.Masked.{IsMaskedProfile, IsMaskedRule}
use Rattle.scf_profile.specs.Profile.{Profile}
use Rattle.scf_profile.specs.ProfileAnswers.{ProfileAnswers}
use Rattle.scf_profile.specs.Reasons.{IsReason}
use Rattle.scf_profile.specs.declared.reason.Reason.TheVariants.{Foreign}
use Rattle.scf_profile.specs.declared.rule.Rule.{Rule}
use Rattle.scf_compare.specs.declared.origin.Origin.{Origin}
use Rattle.scf_compare.specs.declared.origin.Origin.TheVariants.{Filter, Profile as OfReason}
use Rattle.scf_compare.specs.declared.side_tree.SideLeaf.{SideLeaf}
use Rattle.scf_compare.specs.declared.step.Step.{Step}
use Rattle.scf_compare.specs.declared.step.Step.TheVariants.{Leaf}
use Rattle.scf_profile.specs.RulesByNumber.{rules_of}
use Rattle.scf_profile.specs.Stub.{is_stubbed}
use Rattle.scf_compare.specs.declared.profile.ConditionPosition.{ConditionPosition}
use Rattle.scf_compare.specs.declared.profile.ProfileNode.{ProfileNode}
use Rattle.scf_compare.specs.declared.profile.ProfileNode.TheVariants.{Architecture, First, Last, Stub, Number, Condition as OfCondition, Answer as Answers}
use Rattle.scf_compare.specs.declared.question.ConditionPart.{ConditionPart}
use Rattle.scf_compare.specs.internal.Conditions.{IsAtTest, part_size}
use Rattle.scf_compare.specs.Effort.{conditions_size, rules_size, spread, stub_size}
use Rattle.scf_compare.specs.Sides.{Behavior}
use Rattle.scf_compare.specs.internal.NumberedProfiles.{NumberedProfile}
use Rattle.scf_compare.specs.internal.Trees.{Tree}

-- the words of a call have the reason of an origin
abbrev pub ProfileGives : Profile → Origin → List ℕ → Type 0
ProfileGives p (Filter filter index) words = ⊥
ProfileGives p (OfReason reason) words = IsReason p (call_of words) reason

-- a profile by itself: its size is its spread
abbrev pub profile_behavior : Profile → Behavior
profile_behavior p = record {
  answers = λ words answer. ProfileAnswers p (call_of words) answer;
  gives = λ origin words answer. ProfileGives p origin words;
  ends_at = λ at. at ≡ 0;
  is_open_at = λ at. ⊥;
  size = spread p;
  is_masked = λ masks. IsMaskedProfile masks p;
}

-- the rules of the number at an index
abbrev pub own_rules : List NumberRules → ℕ → List Rule
own_rules numbers index = slice_index_or (map (λ entry. entry.rules.items) numbers) index []

-- the conditions of the rule at an index of them
abbrev pub own_conditions : List NumberRules → ConditionPosition → List Condition
own_conditions numbers at = slice_index_or (map (λ r. r.conditions) (own_rules numbers at.number)) at.rule []

-- There is a number, a rule of it and a condition of the rule.
pub record StandsAt (numbers : List NumberRules) (at : ConditionPosition) : Type 0 where
  pub number : at.number < length numbers
  pub rule : at.rule < length (own_rules numbers at.number)
  pub condition : at.condition < length (own_conditions numbers at)

-- The rules of a profile or its default answer a call: it is of the architecture, and the stub doesn't answer it.
pub record IsLeftToRules (p : Profile) (call : CallRecord) : Type 0 where
  pub is_of : IsOf p.architecture call
  pub not_stubbed : is_stubbed p.stub call.nr ≡ false

-- The rules answer a call, its number has the rules of the number at an index, and it meets none of them before one.
pub record IsAtRule (s : NumberedProfile) (number rule : ℕ) (call : CallRecord) : Type 0 where
  pub by_rules : IsLeftToRules s.profile call
  pub own : rules_of call.nr s.profile.rules ≡ own_rules s.numbers number
  pub unmet : All (λ earlier. meets s.profile.architecture earlier call ≡ false)
      (take rule (own_rules s.numbers number))

-- The call is at a rule of a number, and the rule's conditions before one hold of it.
pub record IsAtCondition (s : NumberedProfile) (at : ConditionPosition) (call : CallRecord) : Type 0 where
  pub at_rule : IsAtRule s at.number at.rule call
  pub held : all_hold s.profile.architecture call (take at.condition (own_conditions s.numbers at)) ≡ true

-- The call is at a condition, and this much is known of the argument when a part of it is asked.
pub record KnowsPart (s : NumberedProfile) (at : ConditionPosition) (part : ConditionPart) (call : CallRecord)
    : Type 0 where
  pub at_condition : IsAtCondition s at call
  pub condition : Condition
  pub here : slice_get (own_conditions s.numbers at) at.condition ≡ Some condition
  pub known : IsAtTest (test_of condition).0 part (argument_in s.profile.architecture call condition.index)

-- the call has none of the numbers before an index
abbrev pub IsFrom : ℕ → List NumberRules → CallRecord → Type 0
IsFrom index numbers call = All (λ entry. call.nr ≢ entry.number) (take index numbers)

-- Whether a number is past the last one is asked only where there is such a number, and whether the stub answers a
-- number only where there is a stub.
abbrev pub profile_is_node : NumberedProfile → ProfileNode → Type 0
profile_is_node s Architecture = Unit {0}
profile_is_node s First = Unit {0}
profile_is_node s Last = (row_of s.profile.architecture).last < 2 ^ 32 - 1
profile_is_node s (Stub first) = s.profile.stub ≡ Some first
profile_is_node s (Number index) = Unit {0}
profile_is_node s (OfCondition at part) = StandsAt s.numbers at
profile_is_node s (Answers answer reason) = Unit {0}

abbrev pub profile_reaches : NumberedProfile → ProfileNode → List ℕ → Type 0
profile_reaches s Architecture words = Unit {0}
profile_reaches s First words = (call_of words).arch ≡ (row_of s.profile.architecture).audit
profile_reaches s Last words =
    ((call_of words).arch ≡ (row_of s.profile.architecture).audit)
    × ((row_of s.profile.architecture).first ≤ (call_of words).nr)
profile_reaches s (Stub first) words = IsOf s.profile.architecture (call_of words)
profile_reaches s (Number index) words =
    IsLeftToRules s.profile (call_of words) × IsFrom index s.numbers (call_of words)
profile_reaches s (OfCondition at part) words = KnowsPart s at part (call_of words)
profile_reaches s (Answers answer reason) words =
    ProfileAnswers s.profile (call_of words) answer.0 × IsReason s.profile (call_of words) reason

-- the size of what is asked once a rule failed
abbrev pub size_behind : List NumberRules → ConditionPosition → ℕ
size_behind numbers at = rules_size (drop (at.rule + 1) (own_rules numbers at.number))

-- the size of what is asked once a condition of a rule holds
abbrev pub size_of_rest : List NumberRules → ConditionPosition → ℕ
size_of_rest numbers at =
    conditions_size (drop (at.condition + 1) (own_conditions numbers at)) (size_behind numbers at)

-- what numbers add to the spread
abbrev pub numbers_size : List NumberRules → ℕ
numbers_size numbers = sum_by (λ entry. 1 + rules_size entry.rules.items) numbers

-- the size of what is asked of the architecture's calls
abbrev pub calls_size : NumberedProfile → ℕ
calls_size s = 1 + stub_size s.profile.stub + numbers_size s.numbers

-- the size of a node, where what is asked of calls of other architectures has a size: 1 for a profile on its own
abbrev pub profile_size : NumberedProfile → ℕ → ProfileNode → ℕ
profile_size s others Architecture = 4 + 3 * others + calls_size s
profile_size s others First = 2 + 2 * others + calls_size s
profile_size s others Last = 1 + others + calls_size s
profile_size s others (Stub first) = 3 + numbers_size s.numbers
profile_size s others (Number index) = 1 + numbers_size (drop index s.numbers)
profile_size s others (OfCondition at part) = part_size part (size_of_rest s.numbers at) (size_behind s.numbers at)
profile_size s others (Answers answer Foreign) = others
profile_size s others (Answers answer reason) = 1

-- all of a masked profile's nodes are plain
abbrev pub profile_tree : NumberedProfile → ℕ → Tree ProfileNode
profile_tree s others = record {
  is_node = profile_is_node s;
  reaches = profile_reaches s;
  size = profile_size s others;
  is_plain = λ masks _. All (IsMaskedRule masks) s.profile.rules;
}

-- the step is the answer to a call of another architecture
abbrev pub EndsForeign : Step ProfileNode SideLeaf → Type 0
EndsForeign (Leaf leaf) = leaf.origin ≡ OfReason Foreign
EndsForeign step = ⊥
