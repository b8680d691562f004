-- A finding on filters and a profile is a verdict on them.
use Rattle.scf_compare.proofs.Common.{All, All-cons, All-nil, Finding, ◌≡◌, ℕ, zero, suc, List, Contains, sym, arith, [], ◌∷◌, Insn, call_of-words_of, Profile, SameAnswers, RunAnswers, StackAnswers, one_answers, Relation, Scope, Verdict, RelatedAnswersIn, SameAnswersIn, IsTrueOf, IsTrueOfStackBy, IsDecided, AllRelated, IsTrueFinding, compared_in, finding_of, stack_behavior}
use Rattle.scf_profile.proofs.Answering.{by_only, of_only}
use Rattle.scf_compare.specs.Sides.{profiles_behavior}
use Rattle.scf_compare.specs.internal.Leaves.{IsOnTheLeft}
use Rattle.scf_profile.specs.declared.scope.Scope.TheVariants as scopes
use Rattle.scf_profile.specs.declared.relation.Relation.TheVariants as relations

-- what holds of the only one holds of all
pub alone : {A : Type 0} (P : A → Type 0) (x : A) → P x → All P (x ∷ [])
alone P x holds = All-cons P x [] holds (All-nil P)

-- a verdict that decides a claim decides another that holds exactly where the first one does
pub decided_same : (claim other : Type 0) (limit size : ℕ) (verdict : Verdict) → (claim → other) → (other → claim)
    → IsDecided claim limit size verdict → IsDecided other limit size verdict
decided_same claim other limit size verdict to from h = grind arith

module _ (relation : Relation) (scope : Scope) (filters : List (List Insn)) (p : Profile) where
  -- where the answers to the words of all records of a scope are related, those to the records are
  pub related_of : AllRelated (compared_in relation scope (stack_behavior filters) (profiles_behavior (p ∷ [])))
      → RelatedAnswersIn relation scope (StackAnswers filters) p
  related_of h = λ call is_record in_scope.
      grind (arith, of_only, call_of-words_of call is_record, h call is_record in_scope)

  -- and where those to the records are, those to their words are
  pub words_related : RelatedAnswersIn relation scope (StackAnswers filters) p
      → AllRelated (compared_in relation scope (stack_behavior filters) (profiles_behavior (p ∷ [])))
  words_related h = λ call is_record in_scope.
      grind (arith, by_only, call_of-words_of call is_record, h call is_record in_scope)

  -- a verdict whose finding decides the one decides the other
  pub decided_in : (limit size : ℕ) (verdict : Verdict)
      → IsDecided (AllRelated (compared_in relation scope (stack_behavior filters) (profiles_behavior (p ∷ [])))) limit size verdict
      → IsDecided (RelatedAnswersIn relation scope (StackAnswers filters) p) limit size verdict
  decided_in limit size verdict = decided_same _ _ limit size verdict related_of words_related

  -- a verdict is true where its finding is
  pub true_by : (verdict : Verdict)
      → IsTrueFinding (compared_in relation scope (stack_behavior filters) (profiles_behavior (p ∷ []))) (finding_of verdict)
      → IsTrueOfStackBy relation filters p scope verdict
  true_by verdict h = grind (arith, of_only, call_of-words_of, related_of)

  -- a profile leaves nothing open
  pub on_the_left : (finding : Finding)
      → IsTrueFinding (compared_in relation scope (stack_behavior filters) (profiles_behavior (p ∷ []))) finding
      → IsOnTheLeft finding
  on_the_left finding h = grind arith

only : (insns one : List Insn) → Contains (insns ∷ []) one → one ≡ insns
only insns one (zero, inside, is) = sym is
only insns one (suc index, inside, is) = absurd (omega (arith, inside))

-- a filter alone answers as the stack of it does
module _ (insns : List Insn) (p : Profile) where
  pub same_alone : SameAnswersIn scopes.All (StackAnswers (insns ∷ [])) p → SameAnswers (RunAnswers insns) p
  same_alone same = grind (arith, one_answers)

  pub alone_same : SameAnswers (RunAnswers insns) p → SameAnswersIn scopes.All (StackAnswers (insns ∷ [])) p
  alone_same same = grind (arith, one_answers)

  pub true_alone : (verdict : Verdict) → IsTrueOfStackBy relations.Same (insns ∷ []) p scopes.All verdict
      → IsTrueOf insns p verdict
  true_alone verdict h = grind (arith, one_answers, only, same_alone)
