-- The parts of an answer (Linux uapi seccomp.h), and which of two answers goes first (seccomp(2)).
use Rattle.std.specs.Prelude.{ℕ, ℤ, ◌+◌, ◌*◌, ◌/◌, ◌%◌, ◌^◌, ◌==◌, ◌≤◌, List, [], ◌∷◌, unwrap_or}
use Rattle.std.specs.List.{find}
use Rattle.std.specs.Int.{w16, cast_signed}
use Rattle.scf_insn.specs.declared.answer.Action.{Action}
use Rattle.scf_insn.specs.declared.answer.Action.TheVariants.{KillProcess, KillThread, Trap, Errno, UserNotif, Trace}
use Rattle.scf_insn.specs.declared.answer.Action.TheVariants.{Log, Allow, Other}
use Rattle.scf_insn.specs.declared.answer.Disposition.{Disposition}
use Rattle.scf_insn.specs.declared.answer.Disposition.TheVariants.{Denied, Delegated, Allowed}

-- the high half, which names the action
abbrev pub action_half : ℕ → ℕ
action_half answer = answer / 2 ^ 16

-- the low half, the data
abbrev pub data_half : ℕ → ℕ
data_half answer = answer % 2 ^ 16

-- the high half of an action, that of its SECCOMP_RET_.. of linux/seccomp.h
abbrev pub half_of : Action → ℕ
half_of KillProcess = 0x8000
half_of KillThread = 0x0000
half_of Trap = 0x0003
half_of Errno = 0x0005
half_of UserNotif = 0x7fc0
half_of Trace = 0x7ff0
half_of Log = 0x7ffc
half_of Allow = 0x7fff
half_of (Other half) = half

-- the actions that have a name, in the order of precedence
abbrev pub named_actions : List Action
named_actions = KillProcess ∷ KillThread ∷ Trap ∷ Errno ∷ UserNotif ∷ Trace ∷ Log ∷ Allow ∷ []

-- the action that a high half names
abbrev pub action_of : ℕ → Action
action_of half = unwrap_or (find (λ action. half == half_of action) named_actions) (Other half)

-- an action has a name
abbrev pub IsNamed : Action → Type 0
IsNamed (Other half) = ⊥
IsNamed action = Unit {0}

-- the answer of an action with its data
abbrev pub answer_of : Action → ℕ → ℕ
answer_of action detail = half_of action * 2 ^ 16 + detail

-- the high half read as a signed number: the least goes first
abbrev pub rank_of : ℕ → ℤ
rank_of answer = cast_signed w16 (action_half answer)

-- What becomes of a syscall by the action of its answer (kernel/seccomp.c, `__seccomp_filter`): an action without a
-- name kills the process there, and so denies (seccomp(2): since Linux 4.14).
abbrev pub action_disposition : Action → Disposition
action_disposition KillProcess = Denied
action_disposition KillThread = Denied
action_disposition Trap = Denied
action_disposition Errno = Denied
action_disposition UserNotif = Delegated
action_disposition Trace = Delegated
action_disposition Log = Allowed
action_disposition Allow = Allowed
action_disposition (Other half) = Denied

-- what becomes of a syscall that is answered so: the data play no part, and neither does the rank
abbrev pub disposition_of : ℕ → Disposition
disposition_of answer = action_disposition (action_of (action_half answer))

-- denied < delegated < allowed
abbrev pub permissiveness_of : Disposition → ℕ
permissiveness_of Denied = 0
permissiveness_of Delegated = 1
permissiveness_of Allowed = 2

-- the one answer is no more permissive than the other
abbrev pub IsNoMorePermissive : ℕ → ℕ → Type 0
IsNoMorePermissive answer other =
    permissiveness_of (disposition_of answer) ≤ permissiveness_of (disposition_of other)
