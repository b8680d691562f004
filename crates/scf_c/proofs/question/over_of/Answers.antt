use Rattle.std.proofs.Common.{◌≡◌, arith, inl, inr}
use Rattle.scf_profile.specs.declared.scope.Scope.{Scope}
use Rattle.scf_c.specs.Questions.{IsOver, IsRange}
use Rattle.scf_c.specs.declared.layout.Question.{Question}
use Rattle.scf_c.specs.declared.question.Over.{Over}
use Rattle.scf_c.specs.declared.question.Over.TheVariants.{AtOnce, EachArchitecture, EachCall}
use Rattle.scf_c.proofs.question.over_of.Goals as goal

no_range : (question : Question) → question.scope ≡ 1 → ((scope : Scope) → IsRange question scope → ⊥)
    → (over : Over) → IsOver question over → ⊥
no_range question one none (AtOnce scope) (inl all) = omega (arith, one, all.0)
no_range question one none (AtOnce scope) (inr range) = none scope range.1
no_range question one none EachArchitecture is = omega (arith, one, is)
no_range question one none EachCall is = omega (arith, one, is)

pub returns-in-None : goal.returns-in-None
returns-in-None c = no_range c.args.question.now c.in-1.is c.in-None.ensures
