-- Laws of comparisons of two sides.
use Rattle.std.specs.Prelude.{ℕ, ◌+◌, All}
use Rattle.scf_insn.specs.declared.answer.Answer.{Answer}
use Rattle.scf_insn.specs.declared.architecture.Architecture.{Architecture}
use Rattle.scf_insn.specs.declared.record.CallRecord.{CallRecord}
use Rattle.scf_insn.specs.Words.{IsRecord, words_of}
use Rattle.scf_profile.specs.Profile.{HaveNoConflict}
use Rattle.scf_profile.specs.declared.relation.Relation.{Relation}
use Rattle.scf_profile.specs.declared.relation.Relation.TheVariants.{Same, NoMore, NoLess, SameDisposition}
use Rattle.scf_profile.specs.declared.scope.Scope.{Scope}
use Rattle.scf_profile.specs.declared.scope.Scope.TheVariants.{Numbers}
use Rattle.scf_profile.specs.Relation.{IsRelated}
use Rattle.scf_profile.specs.Scope.{IsInScope}
use Rattle.scf_compare.specs.declared.finding.Finding.TheVariants.{Holds, Fails}
use Rattle.scf_compare.specs.declared.side.Side.{Side}
use Rattle.scf_compare.specs.declared.side.Side.TheVariants.{Stack, Profiles}
use Rattle.scf_compare.specs.Findings.{AllRelated, IsTrueFinding, compared_sides}
use Rattle.scf_compare.specs.Sides.{behavior_of}

-- the rules of a profile don't conflict, so that a side has one answer to a call
abbrev pub IsSide : Side → Type 0
IsSide (Stack filters) = Unit {0}
IsSide (Profiles profiles) = All (λ p. HaveNoConflict p.architecture p.rules) profiles.now

-- the relation holds of the answers of two sides to a call, whichever they are
abbrev pub AreRelatedSides : Relation → Side → Side → CallRecord → Type 0
AreRelatedSides by left right call =
    (first second : ℕ) → (behavior_of left).answers (words_of call) first
    → (behavior_of right).answers (words_of call) second → IsRelated by first second

-- Where the finding is Holds, the relation holds of the answers to every call record of the scope.
abbrev pub HoldsIsTrue : Type 0
HoldsIsTrue =
    (by : Relation) (over : Scope) (left right : Side) (steps : ℕ) → IsSide left → IsSide right
    → IsTrueFinding (compared_sides by over left right) (Holds steps)
    → (call : CallRecord) → IsRecord call → IsInScope over call → AreRelatedSides by left right call

-- Where it is Fails, it doesn't hold of those to its record, which is one of the scope.
abbrev pub FailsIsShown : Type 0
FailsIsShown =
    (by : Relation) (over : Scope) (left right : Side) (call : CallRecord) (first second : Answer)
    → IsTrueFinding (compared_sides by over left right) (Fails call first second)
    → IsRecord call × IsInScope over call × (AreRelatedSides by left right call → ⊥)

-- the headline of any two sides: what holds is true of every call record of the scope, and what fails is shown
pub record SidesHeadline : Type 0 where
  pub holds_is_true : HoldsIsTrue
  pub fails_is_shown : FailsIsShown

-- a relation of the right side's answers to the left side's
abbrev pub turned_relation : Relation → Relation
turned_relation NoMore = NoLess
turned_relation NoLess = NoMore
turned_relation relation = relation

-- one side is no more permissive than another where that one is no less than the first; the same holds both ways
abbrev pub HoldsTurned : Type 0
HoldsTurned =
    (by : Relation) (over : Scope) (left right : Side) → AllRelated (compared_sides by over left right)
    → AllRelated (compared_sides (turned_relation by) over right left)

-- sides that answer alike are related by each relation
abbrev pub SameHoldsByAll : Type 0
SameHoldsByAll =
    (by : Relation) (over : Scope) (left right : Side) → AllRelated (compared_sides Same over left right)
    → AllRelated (compared_sides by over left right)

-- a side that is no more permissive than another, and no less, has the same dispositions
abbrev pub BothWaysIsOneDisposition : Type 0
BothWaysIsOneDisposition =
    (over : Scope) (left right : Side) → IsSide left → IsSide right
    → AllRelated (compared_sides NoMore over left right) → AllRelated (compared_sides NoLess over left right)
    → AllRelated (compared_sides SameDisposition over left right)

-- what holds of one side and another, and of that one and a third, holds of the first and the third: a stack that is
-- the same as one that is the same as a profile is the same as the profile
abbrev pub HoldsThrough : Type 0
HoldsThrough =
    (by : Relation) (over : Scope) (first second third : Side) → IsSide second
    → AllRelated (compared_sides by over first second) → AllRelated (compared_sides by over second third)
    → AllRelated (compared_sides by over first third)

-- what holds over two ranges of an architecture's numbers, of which the second begins behind the first, holds over both
abbrev pub HoldsOverRanges : Type 0
HoldsOverRanges =
    (by : Relation) (architecture : Architecture) (first middle last : ℕ) (left right : Side)
    → AllRelated (compared_sides by (Numbers architecture first middle) left right)
    → AllRelated (compared_sides by (Numbers architecture (middle + 1) last) left right)
    → AllRelated (compared_sides by (Numbers architecture first last) left right)
