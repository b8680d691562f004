-- The ranges of what entries and rules hold, and how many rules there may be.
use Rattle.std.specs.Prelude.{◌≡◌, ◌≢◌, ◌<◌, ◌≤◌, ◌^◌, ℕ, Bool, List, ◌++◌, length, nat_lt, true, is_none, All, Contains, IfErr, OnOk, Result, ⊤}
use Rattle.std.specs.FinMap.{get}
use Rattle.std.specs.List.{filter, list_all, list_any}
use Rattle.scf_insn.specs.declared.architecture.Architecture.{Architecture}
use Rattle.scf_profile.specs.declared.entry.Entry.{Entry}
use Rattle.scf_profile.specs.declared.load_fault.LoadFault.{LoadFault}
use Rattle.scf_profile.specs.declared.load_fault.LoadFault.TheVariants as faults
use Rattle.scf_profile.specs.declared.rule.Rule.{Rule}
use Rattle.scf_profile.specs.Profile.{AreInOrder, Profile}
use Rattle.scf_profile.specs.Limits.{max_rules}
use Rattle.scf_profile.specs.Rule.{IsCondition, IsRule}
use Rattle.scf_profile.specs.StatedProfile.{Tables, skipped_names}
use Rattle.scf_profile.specs.Table.{Names}

pub record IsEntry (e : Entry) : Type 0 where
  pub conditions : All IsCondition e.conditions
  pub answer : e.answer.0 < 2 ^ 32

-- rules that entries state: few enough, each within its ranges, those of one entry with one answer, and in order
pub record AreStatedRules (architecture : Architecture) (rules : List Rule) : Type 0 where
  pub few : length rules ≤ max_rules
  pub each : All (IsRule architecture) rules
  pub one_answer : (r s : Rule) → Contains rules r → Contains rules s → r.entry ≡ s.entry → r.answer ≡ s.answer
  pub in_order : AreInOrder rules

-- a fault other than out of memory tells that the rules are too many, and they are
abbrev pub TellsTooMany : List Rule → LoadFault → Type 0
TellsTooMany rules fault = fault ≢ faults.Memory → (fault ≡ faults.TooMany) × (max_rules < length rules)

-- Rules are added to others, and there are not too many then; or a fault tells that there would be, unless memory ran
-- out.
pub record AddsRules (before added : List Rule) (result : Result ⊤ LoadFault) (after : List Rule) : Type 0 where
  pub rules : OnOk result (after ≡ before ++ added)
  pub few : OnOk result (length after ≤ max_rules)
  pub err : IfErr result (TellsTooMany (before ++ added))

-- the names that a table lacks
abbrev pub names_lacking : Names → List (List ℕ) → List (List ℕ)
names_lacking table names = filter (λ name. is_none (get table name)) names

-- a name that no table has
abbrev pub is_in_none : Tables → List ℕ → Bool
is_in_none tables name = list_all (λ t. is_none (get t.1 name)) tables

-- among names, in order, are the skipped ones of the entries, and no others that no table has
abbrev pub HasSkipped : Tables → List Entry → List (List ℕ) → Type 0
HasSkipped tables entries names = filter (is_in_none tables) names ≡ skipped_names tables entries

-- a fault other than out of memory tells that the rules of some profile are too many, and they are
abbrev pub TellsOneTooMany : List Profile → LoadFault → Type 0
TellsOneTooMany profiles fault =
    fault ≢ faults.Memory
    → (fault ≡ faults.TooMany) × (list_any (λ p. nat_lt max_rules (length p.rules)) profiles ≡ true)
