-- What a profile holds.
use Rattle.std.specs.Prelude.{◌<◌, ◌≤◌, ◌^◌, ℕ, List, Option, length, AllPairs, Contains}
use Rattle.std.specs.List.{AllByRecursion}
use Rattle.scf_insn.specs.declared.answer.Answer.{Answer}
use Rattle.scf_insn.specs.Architectures.{AreApart}
use Rattle.scf_insn.specs.declared.architecture.Architecture.{Architecture}
use Rattle.scf_profile.specs.declared.rule.Rule.{Rule}
use Rattle.scf_profile.specs.Limits.{max_rules}
use Rattle.scf_profile.specs.Rule.{Conflicts, IsRule}

-- an architecture, a default answer, rules in the order of the text, and the first number of the stub, if it has one
pub record Profile : Type 0 where
  pub architecture : Architecture
  pub default_answer : Answer
  pub rules : List Rule
  pub stub : Option ℕ

-- no call record of the architecture meets two rules that answer it differently
abbrev pub HaveNoConflict : Architecture → List Rule → Type 0
HaveNoConflict architecture rules =
    (r s : Rule) → Contains rules r → Contains rules s → Conflicts architecture r s → ⊥

-- no rule stands before one of an earlier entry
abbrev pub AreInOrder : List Rule → Type 0
AreInOrder rules = AllPairs (λ r later. r.entry ≤ later.entry) rules

-- what every loaded profile holds
pub record IsProfile (p : Profile) : Type 0 where
  pub default_answer : p.default_answer.0 < 2 ^ 32
  pub few : length p.rules ≤ max_rules
  pub each : AllByRecursion (IsRule p.architecture) p.rules
  pub no_conflict : HaveNoConflict p.architecture p.rules
  pub in_order : AreInOrder p.rules

-- Profiles of which no two are for one call: those of architectures that are apart.
abbrev pub AreOfApart : List Profile → Type 0
AreOfApart profiles = AllPairs (λ p later. AreApart p.architecture later.architecture) profiles
