-- The lines that the program prints.
use Rattle.std.specs.Prelude.{ℕ, List, ◌++◌, codes, length, Option, Some, None}
use Rattle.std.specs.List.{flat_map}
use Rattle.std.specs.Fmt.{decimal}
use Rattle.scf_insn.specs.declared.answer.Action.{Action}
use Rattle.scf_insn.specs.declared.answer.Action.TheVariants.{KillProcess, KillThread, Trap, Errno, UserNotif, Trace, Log, Allow, Other}
use Rattle.scf_insn.specs.Answers.{action_half, data_half, action_of}
use Rattle.scf_machine.specs.declared.stack.DecidingInsn.{DecidingInsn}
use Rattle.scf_profile.specs.declared.reason.Reason.{Reason}
use Rattle.scf_profile.specs.declared.reason.Reason.TheVariants.{Foreign, Stub, Entry, Default}
use Rattle.scf_tool.specs.Numerals.{eight_digits}

-- the name of an action that has one (Linux uapi seccomp.h, without its prefix)
abbrev pub action_name : Action → List ℕ
action_name KillProcess = codes "KILL_PROCESS"
action_name KillThread = codes "KILL_THREAD"
action_name Trap = codes "TRAP"
action_name Errno = codes "ERRNO"
action_name UserNotif = codes "USER_NOTIF"
action_name Trace = codes "TRACE"
action_name Log = codes "LOG"
action_name Allow = codes "ALLOW"
action_name (Other half) = codes "UNNAMED"

-- an answer by its action: the name and the data, and of an unnamed one the whole answer
abbrev pub text_by : Action → ℕ → List ℕ
text_by (Other half) answer = codes "UNNAMED 0x" ++ eight_digits answer
text_by action answer = action_name action ++ codes " " ++ decimal (data_half answer)

-- an answer of 32 bits
abbrev pub answer_text : ℕ → List ℕ
answer_text answer = text_by (action_of (action_half answer)) answer

-- the count of steps behind the answer of a run, and the end of its line
abbrev pub steps_text : ℕ → List ℕ
steps_text steps = codes " steps " ++ decimal steps ++ codes "\n"

-- an instruction of a filter by both indices, behind the answer that it gives
abbrev pub insn_text : ℕ → ℕ → List ℕ
insn_text filter index = codes " at " ++ (decimal filter ++ (codes ":" ++ decimal index))

-- the line of the answer of a stack and of what gives it, which is nothing where there is no filter
abbrev pub decision_text : Option DecidingInsn → ℕ → List ℕ
decision_text None answer = answer_text answer ++ codes "\n"
decision_text (Some by) answer = answer_text answer ++ (insn_text by.filter by.index ++ codes "\n")

-- the lines of a run whose way is shown: its answer and its steps, and the indices on the way
abbrev pub traced_text : ℕ → List ℕ → List ℕ
traced_text answer indices = answer_text answer ++ (steps_text (length indices)
    ++ (codes "path" ++ (flat_map (λ index. codes " " ++ decimal index) indices ++ codes "\n")))

-- why a profile answers so, behind the answer
abbrev pub reason_words : Reason → List ℕ
reason_words Foreign = codes " foreign"
reason_words Stub = codes " stub"
reason_words (Entry index) = codes " entry " ++ decimal index
reason_words Default = codes " default"
