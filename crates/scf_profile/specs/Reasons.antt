-- Why a profile answers a call as it does: by its stub, by the first entry of `syscalls` of which the call meets a
-- rule, by its default, or because the call is of another architecture (OCI runtime specification, config-linux.md,
-- seccomp).
use Rattle.std.specs.Prelude.{◌≡◌, ℕ, ◌≤◌, true, false, List, [], map, All, Contains}
use Rattle.std.specs.List.{filter}
use Rattle.scf_insn.specs.Architectures.{IsOf}
use Rattle.scf_insn.specs.declared.architecture.Architecture.{Architecture}
use Rattle.scf_insn.specs.declared.record.CallRecord.{CallRecord}
use Rattle.scf_insn.specs.Kernel.{seccomp_ret_kill_process}
use Rattle.scf_profile.specs.declared.reason.Reason.{Reason}
use Rattle.scf_profile.specs.declared.reason.Reason.TheVariants.{Foreign, Stub, Entry, Default}
use Rattle.scf_profile.specs.declared.rule.Rule.{Rule}
use Rattle.scf_profile.specs.Rule.{meets}
use Rattle.scf_profile.specs.Profile.{Profile}
use Rattle.scf_profile.specs.ProfileAnswers.{OfFirst}
use Rattle.scf_profile.specs.Stub.{is_stubbed, stub_answer}

-- the indices of the entries that state the rules which the call meets
abbrev pub entries_met : Architecture → List Rule → CallRecord → List ℕ
entries_met architecture rules call = map (λ r. r.entry) (filter (λ r. meets architecture r call) rules)

abbrev pub IsReason : Profile → CallRecord → Reason → Type 0
IsReason p call Foreign = IsOf p.architecture call → ⊥
IsReason p call Stub = IsOf p.architecture call × (is_stubbed p.stub call.nr ≡ true)
IsReason p call (Entry index) =
    let met = entries_met p.architecture p.rules call in
    IsOf p.architecture call × (is_stubbed p.stub call.nr ≡ false) × Contains met index
    × All (λ entry. index ≤ entry) met
IsReason p call Default =
    IsOf p.architecture call × (is_stubbed p.stub call.nr ≡ false) × (entries_met p.architecture p.rules call ≡ [])

-- the answer that a reason stands for: an entry's is that of its rules which the call meets
abbrev pub IsAnswerOf : Profile → CallRecord → Reason → ℕ → Type 0
IsAnswerOf p call Foreign answer = answer ≡ seccomp_ret_kill_process
IsAnswerOf p call Stub answer = answer ≡ stub_answer
IsAnswerOf p call (Entry index) answer =
    (r : Rule) → Contains p.rules r → r.entry ≡ index → meets p.architecture r call ≡ true → answer ≡ r.answer.0
IsAnswerOf p call Default answer = answer ≡ p.default_answer.0

-- the reason among several profiles: that of the first of the call's architecture
abbrev pub IsReasonAmong : List Profile → CallRecord → Reason → Type 0
IsReasonAmong profiles call reason = OfFirst profiles call (λ p. IsReason p call reason) (reason ≡ Foreign)
