-- Within how many steps the filter of a profile, or of several, answers each call.
use Rattle.std.specs.Prelude.{ℕ, zero, suc, ◌+◌, ◌-◌, ◌*◌, ◌/◌, ◌≤◌, ◌==◌, List, [], ◌∷◌, length, map, max, sum_by}
use Rattle.std.specs.Prelude.{if◌then◌else◌}
use Rattle.scf_insn.specs.declared.insn.Insn.{Insn}
use Rattle.scf_insn.specs.declared.record.CallRecord.{CallRecord}
use Rattle.scf_insn.specs.Words.{IsRecord, words_of}
use Rattle.scf_machine.specs.Machine.{IsRun}
use Rattle.scf_profile.specs.Profile.{Profile}
use Rattle.scf_profile.specs.RulesByNumber.{numbers_of, rules_of}
use Rattle.scf_compile.specs.SizeBound.{number_count, rule_bound, stub_count}

-- the binary digits of a number, of which no more than this many are counted
abbrev pub digits_within : ℕ → ℕ → ℕ
digits_within zero n = 0
digits_within (suc most) n = (if n == 0 then 0 else suc (digits_within most (n / 2)))

-- how many binary digits a number has; 0 has none
unfoldable pub binary_digits : ℕ → ℕ
binary_digits n = digits_within n n

-- the greatest of some numbers, 0 where there are none
abbrev pub greatest : List ℕ → ℕ
greatest [] = 0
greatest (n ∷ ns) = max n (greatest ns)

-- the steps for the rules of a profile: 2 for each binary digit of the count of distinct numbers, and the greatest sum
-- over the rules of one number of 2 and 8 for each condition; a stub counts as one number more, with a rule that has no
-- condition
abbrev pub rules_steps : Profile → ℕ
rules_steps p =
    2 * binary_digits (number_count p)
    + max (2 * stub_count p.stub)
    (greatest (map (λ number. sum_by rule_bound (rules_of number p.rules)) (numbers_of p.rules)))

-- 8, and the steps for its rules
abbrev pub search_bound_of : Profile → ℕ
search_bound_of p = 8 + rules_steps p

-- 8, and 2 for each profile but one, and the most steps for the rules of one of them
abbrev pub search_bound_of_each : List Profile → ℕ
search_bound_of_each profiles = 8 + 2 * (length profiles - 1) + greatest (map rules_steps profiles)

-- Every run over a call record, of whatever architecture and number, ends within so many steps.
abbrev pub AnswersWithin : List Insn → ℕ → Type 0
AnswersWithin insns most =
    (call : CallRecord) → IsRecord call → (answer steps : ℕ) → IsRun insns (words_of call) answer steps → steps ≤ most
