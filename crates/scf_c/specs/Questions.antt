-- Questions: what their numbers mean.
use Rattle.std.specs.Prelude.{◌≡◌, ◌⊎◌, ℕ, List, [], ◌∷◌, Some}
use Rattle.scf_insn.specs.declared.architecture.Architecture.{Architecture}
use Rattle.scf_profile.specs.declared.relation.Relation.{Relation}
use Rattle.scf_profile.specs.declared.relation.Relation.TheVariants.{Same, NoMore, NoLess, SameDisposition}
use Rattle.scf_profile.specs.Scope.{IsInScope}
use Rattle.scf_profile.specs.declared.scope.Scope.{Scope}
use Rattle.scf_profile.specs.declared.scope.Scope.TheVariants.{All, Numbers}
use Rattle.scf_request.specs.Requests.{HasRecord}
use Rattle.scf_c.specs.declared.layout.Question.{Question}
use Rattle.scf_c.specs.declared.layout.SideInput.{SideInput}
use Rattle.scf_c.specs.declared.layout.Table.{Table}
use Rattle.scf_c.specs.declared.question.Asked.{Asked}
use Rattle.scf_c.specs.declared.question.Over.{Over}
use Rattle.scf_c.specs.declared.question.Over.TheVariants as overs
use Rattle.scf_c.specs.Architectures.{AreMeant, architecture_of}
use Rattle.scf_c.specs.Sides.{IsKind}

-- A question names an architecture and a range of its numbers, and some record has one of them.
pub record IsRange (question : Question) (scope : Scope) : Type 0 where
  pub architecture : Architecture
  pub is : architecture_of question.architecture ≡ Some architecture
  pub numbers : scope ≡ Numbers architecture question.first question.last
  pub has_record : HasRecord (IsInScope scope)

-- A question is over these records. Without a range, nothing of it is looked at.
abbrev pub IsOver : Question → Over → Type 0
IsOver question (overs.AtOnce scope) =
    ((question.scope ≡ 0) × (scope ≡ All)) ⊎ ((question.scope ≡ 1) × IsRange question scope)
IsOver question overs.EachArchitecture = question.scope ≡ 2
IsOver question overs.EachCall = question.scope ≡ 3

abbrev pub relation_number : Relation → ℕ
relation_number Same = 0
relation_number NoMore = 1
relation_number NoLess = 2
relation_number SameDisposition = 3

-- The numbers of a question, of both sides and of tables ask for this, and the reserved ones are 0. The limits may be
-- any.
pub record IsAsked (question : Question) (left right : SideInput) (tables : List Table) (asked : Asked) : Type 0 where
  pub over : IsOver question asked.over
  pub relation : question.relation ≡ relation_number asked.relation
  pub unused : question.unused ≡ 0
  pub reserved : question.reserved ≡ 0 ∷ 0 ∷ []
  pub left_is : IsKind left tables asked.left
  pub right_is : IsKind right tables asked.right
  pub tables_are : AreMeant tables

-- the same of a side by itself, whose relation is that of the same answers
abbrev pub IsSideAsked : Question → SideInput → List Table → Asked → Type 0
IsSideAsked question side tables asked =
    (question.relation ≡ relation_number Same) × IsAsked question side side tables asked
