-- What the program prints, and its exit status.
use Rattle.std.specs.Prelude.{ℕ, List, ◌++◌, codes, string_bytes, Result, Ok, Err}
use Rattle.std.specs.Fmt.{decimal}
use Rattle.scf_tool.specs.declared.fault.Fault.{Fault}
use Rattle.scf_tool.specs.declared.reply.Reply.{Reply}
use Rattle.scf_tool.specs.declared.reply.Reply.TheVariants.{CommandLine, Accepted, Ran, Decided, DecidedBy, Asked, Bytes, Compared}
use Rattle.scf_tool.specs.declared.status.Status.{Status}
use Rattle.scf_tool.specs.declared.status.Status.TheVariants.{Success}
use Rattle.scf_tool.specs.Faults.{printed_fault}
use Rattle.scf_tool.specs.Lines.{answer_text, decision_text, reason_words, steps_text}

-- the exit status of a run that ends so, and its text
abbrev pub printed : Result Reply Fault → Status × List ℕ
printed (Ok (CommandLine text status)) = (status, string_bytes text)
printed (Ok (Accepted count)) = (Success, codes "accepted " ++ decimal count ++ codes "\n")
printed (Ok (Ran ran)) = (Success, answer_text ran.answer.0 ++ steps_text ran.steps)
printed (Ok (Decided answer)) = (Success, answer_text answer.0 ++ codes "\n")
printed (Ok (DecidedBy decision)) = (Success, decision_text decision.by decision.answer.0)
printed (Ok (Asked answer reason)) = (Success, answer_text answer.0 ++ (reason_words reason ++ codes "\n"))
printed (Ok (Bytes bytes)) = (Success, bytes.items)
printed (Ok (Compared text status)) = (status, text.items)
printed (Err fault) = printed_fault fault
