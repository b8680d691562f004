-- Profiles whose masks are simple.
use Rattle.std.specs.Prelude.{◌≡◌, All}
use Rattle.scf_insn.specs.SimpleMask.{IsSimpleMask}
use Rattle.scf_insn.specs.Words.{low, high}
use Rattle.scf_profile.specs.declared.condition.Operator.TheVariants.{MaskedEqual}
use Rattle.scf_profile.specs.declared.condition.Condition.{Condition}
use Rattle.scf_profile.specs.declared.rule.Rule.{Rule}
use Rattle.scf_profile.specs.Profile.{Profile}

-- both 32-bit halves of a mask are simple
abbrev pub IsPlainCondition : Condition → Type 0
IsPlainCondition c = c.op ≡ MaskedEqual → IsSimpleMask (low c.value) × IsSimpleMask (high c.value)

pub record IsPlainRule (r : Rule) : Type 0 where
  pub conditions : All IsPlainCondition r.conditions

abbrev pub IsPlainProfile : Profile → Type 0
IsPlainProfile p = All IsPlainRule p.rules
