-- The names that proofs of this crate cite, passed on from one place. Declares nothing.
pub use Rattle.std.proofs.Common.{Bool, Contains, Err, IfSome, List, None, Ok, Option, Result, Some, String, [], add-one, ap, append-nil, append_assoc, arith, codes, drop, false, find, get_or, inl, inr, length, length-drop, map, not, refl, set, string_bytes, subst, suc, sym, take, true, zero, ℕ, ◌++◌, ◌+◌, ◌<◌, ◌∙◌, ◌∷◌, ◌≡◌, ◌≢◌, ◌≤◌, ◌⊎◌}
pub use Rattle.clap.specs.Words.{IsAmong, Row, Text, fault_of}
pub use Rattle.clap.specs.declared.error.kind.ErrorKind.{ErrorKind}
pub use Rattle.clap.specs.declared.error.kind.ErrorKind.TheVariants.{OutOfMemory}
pub use Rattle.std.proofs.lemmas.List.Elements.{Contains-append_right}
pub use Rattle.std.proofs.lemmas.List.{drop-set-lt, set_split, take_more_set}
pub use Rattle.std.proofs.lemmas.List.Folds.{flat_map-map}
pub use Rattle.std.proofs.lemmas.List.Sums.{sum_by_push}
pub use Rattle.std.specs.List.{AllZip}
pub use Rattle.std.specs.declared.alloc.Global.{Global}
pub use Rattle.scf_compare.proofs.Common.{take_all}
pub use Rattle.scf_compare.specs.Sides.{behavior_of}
pub use Rattle.scf_compare.specs.declared.finding.Finding.{Finding}
pub use Rattle.scf_compile.proofs.Common.{drop_more, take_more}
pub use Rattle.scf_facts.proofs.Common.{take-append-drop}
pub use Rattle.scf_insn.proofs.Common.{max_filter_len, max_insns_per_path, program_bytes}
pub use Rattle.scf_compare.specs.declared.finding.Finding.TheVariants.{Holds, Fails, Undecided, Unfinished}
pub use Rattle.scf_insn.specs.declared.insn.Insn.{Insn}
pub use Rattle.scf_machine.specs.Precedence.{StackAnswers}
pub use Rattle.scf_machine.proofs.Common.{IsPush, cost_of}
pub use Rattle.scf_profile.proofs.Common.{IfOk-weaker, Names, err_from_is_err_and, map-append, texts_at}
pub use Rattle.scf_profile.specs.declared.load_fault.LoadFault.{LoadFault}
pub use Rattle.scf_text.proofs.Common.{flat_map}
pub use Rattle.scf_tool.specs.Commands.{NoReadFailed, max_input_len}
pub use Rattle.scf_tool.specs.FilterStacks.{HasNoStack, HasStack, HaveStopped, IsNotPushed}
pub use Rattle.scf_tool.specs.Reports.{argument_text, name_line, named_line}
pub use Rattle.scf_request.specs.Requests.{AsksFor}
pub use Rattle.scf_request.specs.CommandLine.{scf}
pub use Rattle.scf_tool.specs.Runs.{SpeaksOfWords}
pub use Rattle.scf_tool.specs.Verifying.{HasEnded, IsAcceptedFilter, LeavesProfileReader, LeavesTableReader, ReadsUnder}
pub use Rattle.scf_tool.specs.VerifyingStacks.{LeavesFilterReaders}
pub use Rattle.scf_request.specs.declared.contents.PartReader.{PartReader}
pub use Rattle.scf_tool.specs.declared.fault.Fault.{Fault}
pub use Rattle.scf_tool.specs.declared.reply.Reply.{Reply}
pub use Rattle.scf_tool.specs.declared.reply.Reply.TheVariants.{CommandLine}
pub use Rattle.scf_tool.specs.declared.verify_fault.VerifyFault.{VerifyFault}
pub use Rattle.scf_tool.specs.declared.verify_fault.VerifyFault.TheVariants.{FilterRead}
pub use Rattle.scf_request.specs.Contents.{rest_of}
pub use Rattle.scf_tool.specs.internal.Explaining.{Explains}
