-- The rules that apply from each number on.
use Rattle.std.specs.List.{filter}
use Rattle.std.specs.Prelude.{◌≡◌, ℕ, nat_lt, true, false, ◌+◌, ◌-◌, ◌*◌, ◌^◌, ◌<◌}
use Rattle.std.specs.Prelude.{◌≤◌, ◌⊎◌, All, Contains, List, [], ◌∷◌, ◌++◌, length, sum_by}
use Rattle.std.specs.Prelude.{if◌then◌else◌}
use Rattle.scf_insn.specs.declared.answer.Answer.{Answer}
use Rattle.scf_insn.specs.declared.architecture.Architecture.{Architecture}
use Rattle.scf_insn.specs.declared.record.CallRecord.{CallRecord}
use Rattle.scf_insn.specs.Architectures.{row_of}
use Rattle.scf_profile.specs.declared.rule.Rule.{Rule}
use Rattle.scf_profile.specs.Profile.{Profile}
use Rattle.scf_profile.specs.Rule.{all_hold}
use Rattle.scf_profile.specs.RulesByNumber.{numbers_of, rules_of}
use Rattle.scf_profile.specs.Stub.{is_stubbed}
use Rattle.scf_compile.specs.declared.ranges.NrRange.{NrRange}
use Rattle.scf_compile.specs.SizeBound.{rule_bound}

-- the answer of the first of an architecture's rules whose conditions hold, else the default
abbrev pub first_answer : Architecture → CallRecord → Answer → List Rule → ℕ
first_answer a call default [] = default.0
first_answer a call default (r ∷ rs) =
    (if all_hold a call r.conditions then r.answer.0 else first_answer a call default rs)

-- The rules answer each call as others do, whatever their architecture, and have no greater bound.
pub record StandsFor (default : Answer) (rules others : List Rule) : Type 0 where
  pub answers : (a : Architecture) (call : CallRecord)
      → first_answer a call default rules ≡ first_answer a call default others
  pub small : sum_by rule_bound rules ≤ sum_by rule_bound others

-- The effective rules of a number: all of its rules, or none if none of them makes a difference.
pub record AreEffective (default : Answer) (effective rules : List Rule) : Type 0 where
  pub stand : StandsFor default effective rules
  pub some : (effective ≡ rules) ⊎ (effective ≡ [])

-- a count of instructions that a range stays within: with its share of the tests of the call number
abbrev pub rules_bound : List Rule → ℕ
rules_bound [] = 3
rules_bound (r ∷ rs) = 1 + sum_by rule_bound (r ∷ rs)

abbrev pub range_bound : NrRange → ℕ
range_bound s = rules_bound s.rules.now

-- what holds of each rule of some ranges
abbrev pub AllRules : (Rule → Type 0) → List NrRange → Type 0
AllRules P ranges = All (λ s. All P s.rules.now) ranges

-- The range begins at the lower bound, and up to the other one its rules stand for those wanted of each number.
pub record IsServed (default : Answer) (wanted : ℕ → List Rule) (s : NrRange) (low high : ℕ) : Type 0 where
  pub first : s.first ≡ low
  pub some : low < high
  pub stand : (nr : ℕ) → low ≤ nr → nr < high → StandsFor default s.rules.now (wanted nr)

-- the numbers from one bound up to another have a range each: every range goes on up to the next one
abbrev pub AreServed : Answer → (ℕ → List Rule) → ℕ → List NrRange → ℕ → Type 0
AreServed default wanted low [] high = low ≡ high
AreServed default wanted low (s ∷ ss) high =
    (middle : ℕ) × IsServed default wanted s low middle × AreServed default wanted middle ss high

-- From a number on the rules apply: a range of them stands behind the others, or the last one's stand for them.
pub data IsLaid (before : List NrRange) (first : ℕ) (rules : List Rule) (after : List NrRange) : Type 0 where
  begins : (s : NrRange) → s.first ≡ first → s.rules.now ≡ rules → after ≡ before ++ s ∷ []
      → IsLaid before first rules after
  continues : (earlier : List NrRange) (last : NrRange) → before ≡ earlier ++ last ∷ []
      → ((default : Answer) → StandsFor default last.rules.now rules) → after ≡ before
      → IsLaid before first rules after

-- Each number from `first` on and below `end` is served by one of the ranges, which have some of the rules. They are at
-- most so many, and so are the instructions that they stay within.
pub record AreRangesUpTo (first end most bound : ℕ) (default : Answer) (ranges : List NrRange) (rules : List Rule)
    : Type 0 where
  pub serve : AreServed default (λ nr. rules_of nr rules) first ranges end
  pub from_rules : AllRules (Contains rules) ranges
  pub few : length ranges ≤ most
  pub small : sum_by range_bound ranges ≤ bound

-- These are the ranges of an architecture's rules: each of its numbers is served by one, and they are few and small.
abbrev pub AreRangesOfRules : Architecture → Answer → List NrRange → List Rule → Type 0
AreRangesOfRules a default ranges rules =
    let count = length (numbers_of rules) in
    AreRangesUpTo (row_of a).first ((row_of a).last + 1) (1 + 2 * count) (3 + 4 * count + sum_by rule_bound rules)
    default ranges rules

-- those that begin below a number
abbrev pub ranges_below : ℕ → List NrRange → List NrRange
ranges_below start ranges = filter (λ s. nat_lt s.first start) ranges

-- The stub of a profile, if it has one, answers the numbers of its architecture from this one on.
pub record IsStubStart (p : Profile) (start : ℕ) : Type 0 where
  pub first : (row_of p.architecture).first ≤ start
  pub last : start ≤ (row_of p.architecture).last + 1
  pub below : (nr : ℕ) → (row_of p.architecture).first ≤ nr → nr < start → is_stubbed p.stub nr ≡ false
  pub from : (nr : ℕ) → start ≤ nr → nr ≤ (row_of p.architecture).last → is_stubbed p.stub nr ≡ true

-- The ranges of a profile: those of its rules below its stub, and from there on the stub's rules.
pub record AreRangesOf (p : Profile) (stub : List Rule) (ranges : List NrRange) : Type 0 where
  pub start : ℕ
  pub is_start : IsStubStart p start
  pub whole : List NrRange
  pub laid : AreRangesOfRules p.architecture p.default_answer whole p.rules
  pub some : start < (row_of p.architecture).last + 1 → IsLaid (ranges_below start whole) start stub ranges
  pub none : (row_of p.architecture).last + 1 ≤ start → ranges ≡ ranges_below start whole

-- The ranges of a profile, and behind them other rules for the numbers above the architecture's.
pub record AreAllRanges (p : Profile) (stub others : List Rule) (ranges : List NrRange) : Type 0 where
  pub first : List NrRange
  pub laid : AreRangesOf p stub first
  pub some : (row_of p.architecture).last < 2 ^ 32 - 1
      → IsLaid first ((row_of p.architecture).last + 1) others ranges
  pub none : (row_of p.architecture).last ≡ 2 ^ 32 - 1 → ranges ≡ first
