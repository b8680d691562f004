-- What a compiled filter is to the comparer.
use Rattle.std.specs.Prelude.{◌≡◌, ◌≤◌, ℕ, List}
use Rattle.scf_insn.specs.declared.insn.Insn.{Insn}
use Rattle.scf_profile.specs.Profile.{Profile}
use Rattle.scf_profile.specs.PlainProfile.{IsPlainProfile}
use Rattle.scf_compare.specs.declared.verdict.Verdict.{Verdict}
use Rattle.scf_compare.specs.declared.verdict.Verdict.TheVariants.{Same}
use Rattle.scf_compare.specs.Effort.{effort_of}

-- The verdict on a plain profile and its filter is Same, in at most as many steps as the effort, unless this is above
-- the limit.
abbrev pub IsSameAsItsProfile : Profile → ℕ → List Insn → Verdict → Type 0
IsSameAsItsProfile p limit program verdict =
    IsPlainProfile p → effort_of program p ≤ limit
    → (steps : ℕ) × (steps ≤ effort_of program p) × (verdict ≡ Same steps)
