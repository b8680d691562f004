-- The sides of a comparison.
use Rattle.std.specs.Prelude.{◌≡◌, ◌*◌, ◌⊎◌, ℕ, List, [], ◌∷◌, All, Contains, slice_index_or}
use Rattle.scf_insn.specs.declared.insn.Insn.{Insn}
use Rattle.scf_insn.specs.declared.operation.Arithmetic.TheVariants.{Div}
use Rattle.scf_insn.specs.declared.operation.Operand.TheVariants.{Index}
use Rattle.scf_insn.specs.declared.operation.Operation.{Operation}
use Rattle.scf_insn.specs.declared.operation.Operation.TheVariants.{Compute, ReturnConstant, ReturnAccumulator}
use Rattle.scf_insn.specs.Words.{call_of}
use Rattle.scf_machine.specs.Plain.{IsPlainProgram}
use Rattle.scf_machine.specs.Precedence.{GivesDecision, StackAnswers}
use Rattle.scf_machine.specs.Rules.{Stands}
use Rattle.scf_profile.specs.PlainProfile.{IsPlainProfile}
use Rattle.scf_profile.specs.Profile.{Profile}
use Rattle.scf_profile.specs.ProfileAnswers.{ProfilesAnswer}
use Rattle.scf_profile.specs.Reasons.{IsReasonAmong}
use Rattle.scf_compare.specs.declared.origin.Origin.{Origin}
use Rattle.scf_compare.specs.declared.origin.Origin.TheVariants.{Filter, Profile as OfReason}
use Rattle.scf_compare.specs.declared.side.Side.{Side}
use Rattle.scf_compare.specs.declared.side.Side.TheVariants.{Stack, Profiles}
use Rattle.scf_compare.specs.Effort.{spread_of_all, stack_paths}
use Rattle.scf_compare.specs.Masked.{IsMaskedProfile, IsMaskedProgram}

-- A run of the program can end at this instruction: a return, or a division by the index register, which may be 0.
pub record CanEndAt (insns : List Insn) (at : ℕ) : Type 0 where
  pub insn : Insn
  pub operation : Operation
  pub stands : Stands insns at insn operation
  pub ends : (operation ≡ ReturnConstant) ⊎ (operation ≡ ReturnAccumulator) ⊎ (operation ≡ Compute Div Index)

-- a run of one of the filters can end at this instruction, which is 0 where there is no filter
abbrev pub StackCanEndAt : List (List Insn) → ℕ → Type 0
StackCanEndAt [] at = at ≡ 0
StackCanEndAt (filter ∷ filters) at = (one : List Insn) × Contains (filter ∷ filters) one × CanEndAt one at

-- A run of the program can end at this instruction with an answer that isn't known: one that it returns from the
-- accumulator.
pub record ReturnsAccumulatorAt (insns : List Insn) (at : ℕ) : Type 0 where
  pub insn : Insn
  pub stands : Stands insns at insn ReturnAccumulator

-- so can a run of one of the filters
abbrev pub StackIsOpenAt : List (List Insn) → ℕ → Type 0
StackIsOpenAt filters at = (one : List Insn) × Contains filters one × ReturnsAccumulatorAt one at

-- the index of the instruction that an answer comes from, 0 in a profile
abbrev pub origin_index : Origin → ℕ
origin_index (Filter filter index) = index
origin_index (OfReason reason) = 0

-- the filter at an index of a stack
abbrev pub filter_at : List (List Insn) → ℕ → List Insn
filter_at filters index = slice_index_or filters index []

-- the instruction of the filter gives a stack its answer to the words, as `decide` names it
abbrev pub FilterGives : List (List Insn) → Origin → List ℕ → ℕ → Type 0
FilterGives filters (Filter filter index) words answer =
    GivesDecision filters words (record { filter = filter; index = index }) answer
FilterGives filters (OfReason reason) words answer = ⊥

-- so it is in a stack, and both indices are 0 where there is no filter
abbrev pub StackGives : List (List Insn) → Origin → List ℕ → ℕ → Type 0
StackGives [] origin words answer = origin ≡ Filter 0 0
StackGives (oldest ∷ newer) origin words answer = FilterGives (oldest ∷ newer) origin words answer

-- the words of a call have the reason of an origin among profiles
abbrev pub ProfilesGive : List Profile → Origin → List ℕ → Type 0
ProfilesGive profiles (Filter filter index) words = ⊥
ProfilesGive profiles (OfReason reason) words = IsReasonAmong profiles (call_of words) reason

-- What a side is to a comparison: what it answers to the words of a call, from which origin it gives them an answer, at
-- which instructions it ends, and at which of them its answer may be unknown, how many steps its whole tree takes, and
-- by which masks it is decided.
pub record Behavior : Type 1 where
  pub answers : List ℕ → ℕ → Type 0
  pub gives : Origin → List ℕ → ℕ → Type 0
  pub ends_at : ℕ → Type 0
  pub is_open_at : ℕ → Type 0
  pub size : ℕ
  pub is_masked : ℕ → Type 0

-- a stack: its size is the product of the sizes of its filters' trees of paths
abbrev pub stack_behavior : List (List Insn) → Behavior
stack_behavior filters = record {
  answers = StackAnswers filters;
  gives = StackGives filters;
  ends_at = StackCanEndAt filters;
  is_open_at = StackIsOpenAt filters;
  size = stack_paths filters;
  is_masked = λ masks. All (IsMaskedProgram masks) filters;
}

-- profiles, which have no instructions and always know their answer: their size is their spread
abbrev pub profiles_behavior : List Profile → Behavior
profiles_behavior profiles = record {
  answers = λ words answer. ProfilesAnswer profiles (call_of words) answer;
  gives = λ origin words answer. ProfilesGive profiles origin words;
  ends_at = λ at. at ≡ 0;
  is_open_at = λ at. ⊥;
  size = spread_of_all profiles;
  is_masked = λ masks. All (IsMaskedProfile masks) profiles;
}

-- a side answers the words so, from this origin
abbrev pub AnswersFrom : Behavior → Origin → List ℕ → ℕ → Type 0
AnswersFrom behavior origin words answer = behavior.answers words answer × behavior.gives origin words answer

abbrev pub behavior_of : Side → Behavior
behavior_of (Stack filters) = stack_behavior filters.now
behavior_of (Profiles profiles) = profiles_behavior profiles.now

-- both sides are stacks of the same filters, in the same order
abbrev pub AreOneStack : Side → Side → Type 0
AreOneStack (Stack left) (Stack right) = left.now ≡ right.now
AreOneStack left right = ⊥

-- the tests of a side are of words, halves of arguments and single bits
abbrev pub IsPlainSide : Side → Type 0
IsPlainSide (Stack filters) = All IsPlainProgram filters.now
IsPlainSide (Profiles profiles) = All IsPlainProfile profiles.now

-- or under masks whose bits are among these
abbrev pub IsMaskedSide : ℕ → Side → Type 0
IsMaskedSide masks side = (behavior_of side).is_masked masks

-- the effort of a comparison of two sides: the product of their sizes
abbrev pub effort_of_sides : Side → Side → ℕ
effort_of_sides left right = (behavior_of left).size * (behavior_of right).size
