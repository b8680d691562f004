-- The instructions of rules, and what is put together of them: searches of the call number, and the whole filter.
use Rattle.std.specs.Prelude.{◌≡◌, ℕ, ◌+◌, ◌-◌, ◌*◌, ◌^◌, ◌<◌, ◌≤◌, All, Bool, List, [], ◌∷◌, ◌++◌, length, max}
use Rattle.std.specs.Prelude.{IsTrue, if◌then◌else◌, sum_by}
use Rattle.std.specs.List.{AllByRecursion}
use Rattle.scf_insn.specs.Architectures.{IsOf}
use Rattle.scf_insn.specs.declared.architecture.Architecture.{Architecture}
use Rattle.scf_insn.specs.declared.insn.Insn.{Insn}
use Rattle.scf_insn.specs.declared.answer.Answer.{Answer}
use Rattle.scf_insn.specs.declared.record.CallRecord.{CallRecord}
use Rattle.scf_insn.specs.Words.{IsRecord, words_of}
use Rattle.scf_profile.specs.declared.condition.Condition.{Condition}
use Rattle.scf_profile.specs.declared.rule.Rule.{Rule}
use Rattle.scf_profile.specs.PlainProfile.{IsPlainProfile, IsPlainRule}
use Rattle.scf_profile.specs.Profile.{Profile}
use Rattle.scf_profile.specs.ProfileAnswers.{ProfilesAnswer}
use Rattle.scf_profile.specs.Rule.{IsRule}
use Rattle.scf_profile.specs.RulesByNumber.{rules_of}
use Rattle.scf_profile.specs.Stub.{is_stubbed, stub_answer}
use Rattle.scf_compile.specs.declared.dispatch.Search.{Search}
use Rattle.scf_compile.specs.declared.placing.Position.{Position}
use Rattle.scf_compile.specs.declared.ranges.NrRange.{NrRange}
use Rattle.scf_compile.specs.SearchBound.{rules_steps, search_bound_of_each}
use Rattle.scf_compile.specs.SizeBound.{number_count, rule_bound, size_bound_of_each}
use Rattle.scf_compile.specs.internal.Insns.{return_with}
use Rattle.scf_compile.specs.internal.Blocks.{condition_code}
use Rattle.scf_compile.specs.internal.Placing.{code_from, IsNear}
use Rattle.scf_compile.specs.internal.Runs.{EndsWithin}
use Rattle.scf_compile.specs.internal.Sound.{AreSound}
use Rattle.scf_compile.specs.internal.NrRanges.{AllRules, AreServed, first_answer, range_bound, rules_bound}

-- the tests of a rule's conditions: one that fails skips the tests behind it and one more instruction
abbrev pub conditions_code : Architecture → List Condition → List Insn
conditions_code a [] = []
conditions_code a (c ∷ cs) = condition_code a c (length (conditions_code a cs) + 1) ++ conditions_code a cs

-- returns the rule's answer if its conditions hold; else the instructions behind the rule follow
abbrev pub rule_code : Architecture → Rule → List Insn
rule_code a r = conditions_code a r.conditions ++ return_with r.answer.0 ∷ []

-- the instructions behind a rule with these conditions: none behind a rule without conditions, which answers each call
abbrev pub behind_rule : List Condition → List Insn → List Insn
behind_rule [] others = []
behind_rule (c ∷ cs) others = others

-- The code answers each call within so many steps, whatever is in the accumulator, and has no more instructions.
pub record Answers (code : List Insn) (most : ℕ) (plain : Type 0) (answer : CallRecord → ℕ) : Type 0 where
  pub some : 0 < length code
  pub len : length code ≤ most
  pub sound : (asked : Bool) → (IsTrue asked → plain) → AreSound asked code
  pub ends : (call : CallRecord) → IsRecord call → (a : ℕ) → EndsWithin (words_of call) code a (answer call) most

-- The code answers as the first of the rules whose conditions hold, within the bound of their range.
abbrev pub AnswersRules : Architecture → Answer → List Rule → List Insn → Type 0
AnswersRules a default rules code =
    Answers code (rules_bound rules - 2) (AllByRecursion IsPlainRule rules)
    (λ call. first_answer a call default rules)

-- Instructions are put in front of others, which keep their positions. All are sound if the others are, and plain if
-- this holds.
pub record ArePut (plain : Type 0) (before after : List Insn) (index : Position) : Type 0 where
  pub longer : length before ≤ length after
  pub stays : (p : Position) → p.0 ≤ length before → code_from p after ≡ code_from p before
  pub some : 0 < index.0
  pub near : IsNear index after
  pub sound : (asked : Bool) → (IsTrue asked → plain) → AreSound asked before → AreSound asked after

-- From an index on, each call with a number in the ranges is answered by the rules that are wanted of it, within two
-- steps for each time that so many ranges can be halved, and those of the rules. The search begins the code if there
-- was none before.
pub record IsSearchPut (a : Architecture) (default : Answer) (most : ℕ) (ranges : List NrRange)
    (before after : List Insn) (index : Position) : Type 0 where
  pub small : length after + 2 ≤ length before + sum_by range_bound ranges
  pub put : ArePut (AllRules IsPlainRule ranges) before after index
  pub front : before ≡ [] → index.0 ≡ length after
  pub ends : (call : CallRecord) (wanted : ℕ → List Rule) (low high halvings : ℕ) → IsRecord call
      → AreServed default wanted low ranges high → low ≤ call.nr → call.nr < high → most ≤ 2 ^ halvings
      → EndsWithin (words_of call) (code_from index after) call.nr (first_answer a call default (wanted call.nr))
      (2 * halvings + (1 + sum_by rule_bound (wanted call.nr)))

-- the answer to a call of the profile's architecture: the stub's, or that of the first rule that the call meets
abbrev pub own_answer : Profile → CallRecord → ℕ
own_answer p call =
    (if is_stubbed p.stub call.nr then stub_answer
    else first_answer p.architecture call p.default_answer (rules_of call.nr p.rules))

-- the most ranges that the search of a profile may have: two for each number, and two more
abbrev pub most_ranges : Profile → ℕ
most_ranges p = 2 * number_count p + 2

-- Ranges that the search of a profile may have.
pub record MayBePut (p : Profile) (ranges : List NrRange) : Type 0 where
  pub some : 0 < length ranges
  pub few : length ranges ≤ most_ranges p
  pub rules : AllRules (IsRule p.architecture) ranges
  pub small : sum_by range_bound ranges < 2 ^ 31

-- From the search's index on, each call of the profile's architecture is answered as the profile answers it.
pub record IsSearchOf (p : Profile) (code : List Insn) (s : Search) : Type 0 where
  pub architecture : s.architecture ≡ p.architecture
  pub some : 0 < s.index.0
  pub stands : s.index.0 ≤ length code
  pub ends : (call : CallRecord) → IsRecord call → IsOf p.architecture call
      → EndsWithin (words_of call) (code_from s.index code) call.nr (own_answer p call) (3 + rules_steps p)

-- each profile has its search
abbrev pub AreSearchesOf : List Insn → List Profile → List Search → Type 0
AreSearchesOf code [] [] = Unit {0}
AreSearchesOf code (p ∷ ps) (s ∷ ss) = IsSearchOf p code s × AreSearchesOf code ps ss
AreSearchesOf code _ _ = ⊥

-- The code is the searches of the profiles. Seven instructions more for each are within the bound on the size.
pub record AreSearched (ps : List Profile) (code : List Insn) (ss : List Search) : Type 0 where
  pub each : AreSearchesOf code ps ss
  pub small : length code + 7 * length ps ≤ size_bound_of_each ps
  pub sound : (plain : Bool) → (IsTrue plain → All IsPlainProfile ps) → AreSound plain code

-- the filter and the profiles give a call the same answer, within the bound on the steps
pub record AnswersCall (ps : List Profile) (code : List Insn) (call : CallRecord) : Type 0 where
  pub answer : ℕ
  pub of_words : EndsWithin (words_of call) code 0 answer (search_bound_of_each ps)
  pub of_profiles : ProfilesAnswer ps call answer

-- The code answers each call as the profiles do, and within the bound on the steps. It is within the bound on the size,
-- or for no profile has at most two instructions. It is sound, and plain where the profiles are.
pub record IsFilterOf (ps : List Profile) (code : List Insn) : Type 0 where
  pub some : 0 < length code
  pub sized : length code ≤ max 2 (size_bound_of_each ps)
  pub sound : (plain : Bool) → (IsTrue plain → All IsPlainProfile ps) → AreSound plain code
  pub answered : (call : CallRecord) → IsRecord call → AnswersCall ps code call
