-- What a profile answers to a call, and what several answer.
use Rattle.std.specs.Prelude.{◌≡◌, ◌⊎◌, ℕ, List, [], ◌∷◌, true, false, Contains}
use Rattle.scf_insn.specs.Architectures.{IsOf}
use Rattle.scf_insn.specs.declared.record.CallRecord.{CallRecord}
use Rattle.scf_insn.specs.Kernel.{seccomp_ret_kill_process}
use Rattle.scf_profile.specs.declared.rule.Rule.{Rule}
use Rattle.scf_profile.specs.Rule.{meets}
use Rattle.scf_profile.specs.Profile.{Profile}
use Rattle.scf_profile.specs.Stub.{is_stubbed, stub_answer}

-- KILL_PROCESS to a call that isn't of its architecture, and ENOSYS to one of it that the stub answers. To any other,
-- the answer of any rule that it meets, and the default answer where it meets none. The order of the rules plays no
-- part.
pub data ProfileAnswers (p : Profile) (call : CallRecord) : ℕ → Type 0 where
  foreign : (IsOf p.architecture call → ⊥) → ProfileAnswers p call seccomp_ret_kill_process
  by_stub : IsOf p.architecture call → is_stubbed p.stub call.nr ≡ true → ProfileAnswers p call stub_answer
  by_rule : (r : Rule) → IsOf p.architecture call → is_stubbed p.stub call.nr ≡ false → Contains p.rules r
      → meets p.architecture r call ≡ true → ProfileAnswers p call r.answer.0
  by_default : IsOf p.architecture call → is_stubbed p.stub call.nr ≡ false
      → ((r : Rule) → Contains p.rules r → meets p.architecture r call ≡ false)
      → ProfileAnswers p call p.default_answer.0

-- what holds of the first profile of whose architecture the call is, or where there is none
abbrev pub OfFirst : List Profile → CallRecord → (Profile → Type 0) → Type 0 → Type 0
OfFirst [] call own none = none
OfFirst (p ∷ later) call own none =
    (IsOf p.architecture call × own p) ⊎ ((IsOf p.architecture call → ⊥) × OfFirst later call own none)

-- the answer of that profile, and KILL_PROCESS where there is none
abbrev pub ProfilesAnswer : List Profile → CallRecord → ℕ → Type 0
ProfilesAnswer profiles call answer =
    OfFirst profiles call (λ p. ProfileAnswers p call answer) (answer ≡ seccomp_ret_kill_process)
