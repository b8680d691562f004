use Rattle.scf_compile.proofs.Common.{arith, ap, ◌≤◌, List, length, Insn, bpf_maxinsns}
use Rattle.scf_compile.proofs.Sizes.{at_least_each}
use Rattle.scf_compile.proofs.Valid.{answers_within, is_plain, keeps_scratch_rule, sound_is_valid}
use Rattle.scf_compile.proofs.compiler.compile_by_counts.Goals as goal

pub returns-then-profiles-gt-BPF_MAXINSNS-clause-large : goal.returns-then-profiles-gt-BPF_MAXINSNS-clause-large
returns-then-profiles-gt-BPF_MAXINSNS-clause-large c = λ _. omega (arith, at_least_each c.args.profiles.now)

pub returns-in-Ok-clause-searched : goal.returns-in-Ok-clause-searched
returns-in-Ok-clause-searched c = rw c.in-Ok.ensures.accepted.0 (answers_within c.in_ok-code.ensures)

pub returns-in-Ok-clause-plain : goal.returns-in-Ok-clause-plain
returns-in-Ok-clause-plain c = λ plain. rw c.in-Ok.ensures.accepted.0 (is_plain c.in_ok-code.ensures plain)

-- a list that keeps both rules is refused when memory runs out alone
pub unreachable-requires : goal.unreachable-requires
unreachable-requires c =
    let len = c.as_slice.ensures.len in
    let few : length c.in_ok-code.code.items ≤ bpf_maxinsns =
    omega (arith, ap (λ (l : List Insn). length l) c.as_slice.ensures.value) in
    c.in-Err.ensures.only_where c.in_default.not-Memory (sound_is_valid c.in_ok-code.ensures few)
    (keeps_scratch_rule c.in_ok-code.ensures)

pub returns-in-Ok-clause-sized : goal.returns-in-Ok-clause-sized
returns-in-Ok-clause-sized c = rw c.in-Ok.ensures.accepted.0 c.in_ok-code.ensures.sized
