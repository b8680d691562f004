-- The names that proofs of this crate cite, passed on from one place. Declares nothing.
pub use Rattle.std.proofs.Common.{All, Bool, Contains, List, None, Option, Some, [], ap, arith, below_more, bit_and, bit_or, cond, false, get_or, if◌then◌else◌, inl, inr, length, length-append, length-take, length-set, map, min, nat_eq, refl, replicate, reverse, rules, set, subst, suc, sym, take, true, zero, ℕ, ◌%◌, ◌*◌, ◌++◌, ◌+◌, ◌-◌, ◌<ℤ◌, ◌<◌, ◌^◌, ◌↔◌, ◌∙◌, ◌∷◌, ◌≡◌, ◌≢◌, ◌≤ℤ◌, ◌≤◌, ◌⊎◌}
pub use Rattle.std.proofs.lemmas.Bool.{or_from, or_parts, true_from_ne_false}
pub use Rattle.std.proofs.lemmas.Int.{ints}
pub use Rattle.std.proofs.lemmas.List.{get_or-reverse, length-reverse, reverse-append}
pub use Rattle.std.proofs.lemmas.List.Elements.{All-push}
pub use Rattle.std.proofs.lemmas.Nat.Bits.{bit_at-zero, bit_at_and, bit_at_ones, bit_at_set_other, bit_at_set_same}
pub use Rattle.std.proofs.lemmas.Option.{gets, slice_get-get_or, slice_get_read, slice_get_within}
pub use Rattle.std.specs.Int.{bit_at}
pub use Rattle.std.specs.Prelude.{int_lt}
pub use Rattle.std.specs.List.{list_any, slice_get}
pub use Rattle.scf_insn.proofs.Common.{AllByRecursion, IsInsn, IsNamed, IsNoMorePermissive, action_disposition, action_half, action_of, bpf_maxinsns, bpf_memwords, cases_eq, cases_lt, common_steps, disposition_of, nat_tests, permissiveness_of, rank_of, seccomp_ret_allow, take_all, take_more, w16, words_of}
pub use Rattle.scf_insn.specs.declared.answer.Answer.{Answer}
pub use Rattle.scf_insn.specs.declared.insn.Insn.{Insn}
pub use Rattle.scf_insn.specs.declared.operation.Arithmetic.{Arithmetic}
pub use Rattle.scf_insn.specs.declared.operation.Arithmetic.TheVariants.{Div, Lsh, Rsh}
pub use Rattle.scf_insn.specs.declared.operation.Operand.TheVariants.{Index}
pub use Rattle.scf_insn.specs.declared.operation.Operation.{Operation}
pub use Rattle.scf_insn.specs.declared.operation.Operation.TheVariants.{LoadScratch}
pub use Rattle.scf_insn.specs.declared.operation.Register.{Register}
pub use Rattle.scf_insn.specs.declared.operation.Register.TheVariants.{A}
pub use Rattle.scf_machine.specs.Checks.{IsFineBelow, IsFirstFault, IsFirstWrong}
pub use Rattle.scf_machine.specs.Machine.{Ends, EndsAt, Fault, Faults, Goes, IsChain, IsRun, IsRunFrom, Outcome, RunAnswers, RunsSafely, State, computation, effect, holds, jumps_to, loads, operand_of, sets, start, step, holds as test_holds, unless, value_computed, word_at}
pub use Rattle.scf_machine.specs.Parts.{IsPart, moved}
pub use Rattle.scf_machine.specs.Path.{indices_of}
pub use Rattle.scf_machine.specs.Plain.{IsPlainInsn, IsPlainOperation, IsPlainProgram}
pub use Rattle.scf_machine.specs.Precedence.{AnswersAt, AreAnswers, GivesDecision, IsDecidedBy, IsDecision, IsFirstLeast, StackAnswers, with_newest}
pub use Rattle.scf_machine.specs.Rules.{Edge, GoesTo, IsFilter, IsFine, IsFineAt, IsPath, IsReturn, IsUnsetAt, IsValidList, KeepsScratchRule, Stands, stores_word}
unfoldable pub use Rattle.scf_machine.specs.Rules.{stores_at}
pub use Rattle.scf_machine.specs.Stack.{IsPush, cost_of}
pub use Rattle.scf_machine.specs.declared.checker.CheckFault.{CheckFault}
pub use Rattle.scf_machine.specs.declared.checker.CheckFault.TheVariants.{Empty, LastNotReturn, Memory, TooLong, Unset}
pub use Rattle.scf_machine.specs.declared.machine.Registers.{Registers}
pub use Rattle.scf_machine.specs.declared.stack.DecidingInsn.{DecidingInsn}
pub use Rattle.scf_machine.specs.internal.Masks.{Joins, MasksAt, Unstored}
pub use Rattle.scf_machine.specs.internal.Registers.{Agrees, Follows, IsAt, StandFor}
