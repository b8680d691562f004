-- The names that proofs of this crate cite, passed on from one place. Declares nothing.
pub use Rattle.std.proofs.Common.{drop-cons, add-one, All, Bool, Contains, IfSome, IsTrue, List, None, Option, Some, [], ap, arith, bit_and, bit_or, bit_xor, drop, eqb, false, get_or, if◌then◌else◌, inl, inr, leb, length, length-append, length-take, map, nat_lt, refl, rules, slice_get, slice_index, slice_index_or, subst, suc, sym, take, true, zero, zero-add, ℕ, ◌%◌, ◌*◌, ◌++◌, ◌+◌, ◌-◌, ◌/◌, ◌<◌, ◌==◌, ◌^◌, ◌↔◌, ◌∙◌, ◌∷◌, ◌≡◌, ◌≢◌, ◌≤◌, ◌⊎◌}
pub use Rattle.std.proofs.Math.Nat.{add-mod, add_comm, div-eq_of_lt, div-mul-le_self, div-one, eq-or-lt_of_le, lt_of_mul-lt-mul_right, mod-eq_of_lt, mod-le, mul-le-mul, mul-lt-mul_of_pos_right, mul-mod_left, mul_comm}
pub use Rattle.std.proofs.Math.Pow.{mod-mod-pow, shr_mono}
pub use Rattle.std.proofs.lemmas.List.Sums.{sum_by-append, sum_by-drop_more, sum_by-take-drop}
pub use Rattle.std.proofs.lemmas.Nat.{and_block, and_mask, and_mod, div-add-mod', le-div, le_or_l, mul-mod, or_lt, pow-add, shl-shr, shr-shr, shr_le, trailing_le, xor_comm}
pub use Rattle.std.proofs.lemmas.Nat.Bits.{bit_at-trailing_ones, bit_at_not, bit_at_ones, bit_at_ones_above, or_low_ones, same_from_bits_below}
pub use Rattle.std.proofs.lemmas.List.Elements.{All-contains_itself, All-filter, filter_passes}
pub use Rattle.std.proofs.lemmas.Option.{IfSome_then, get_or_from_slice_get, slice_get-map, slice_get_read}
pub use Rattle.std.specs.Int.Bits.{and_self, or_zero_r, xor_self}
pub use Rattle.std.specs.Int.{trailing_ones}
pub use Rattle.std.specs.Int.Count.{trailing_of_zero}
pub use Rattle.scf_facts.proofs.Common.{All-push, IsSameLevel, and_assoc, and_comm, and_le_r, and_zero_r, atom_answer, bit_at, bit_at-lt, bit_at-zero, bit_at_and, bit_at_or, bit_at_xor, cases_eq, cases_lt, common_steps, div-lt_iff_lt-mul, eq-eqb, eqb-true, le-div_iff_mul-le, mod-lt, one_shl, ones_shl, pow_mono, pow_pos, same_from_bits, take_all, w32, xor_lt}
pub use Rattle.scf_facts.proofs.CommonBits.{kept, same_from_xor}
pub use Rattle.scf_facts.proofs.HighMasks.{beyond_mask, of_multiple, one_more}
pub use Rattle.scf_facts.proofs.MaskLaws.{and_twice, at_bit, part_of}
pub use Rattle.scf_facts.specs.Bits.{HasBits}
pub use Rattle.scf_facts.specs.declared.bits.Bits.{Bits}
pub use Rattle.scf_facts.specs.declared.atom.Atom.{Atom}
pub use Rattle.scf_facts.specs.declared.word_facts.WordFacts.{Ghosts as Store}
pub use Rattle.scf_insn.proofs.CallWords.{IsRecord-call_of, IsWords-words_of, call_of-words_of, word_below, words_of-call_of}
pub use Rattle.scf_insn.proofs.Common.{drop-drop, IsRecord, IsSimpleMask, IsWords, and_shr, argument, bpf_memwords, call_of, disposition_of, mul-le-mul_left, permissiveness_of, words_of}
unfoldable pub use Rattle.scf_insn.proofs.Common.{operation_of}
pub use Rattle.scf_insn.proofs.Halves.{argument_high, argument_low}
pub use Rattle.scf_insn.specs.Architectures.{IsOf, argument_in, row_of, taken_of}
pub use Rattle.scf_insn.specs.declared.architecture.Architecture.{Architecture}
pub use Rattle.scf_insn.specs.declared.architecture.ArgumentBits.{ArgumentBits}
pub use Rattle.scf_insn.specs.declared.architecture.ArgumentBits.TheVariants.{Bits32, Bits64}
pub use Rattle.scf_insn.specs.declared.answer.Answer.{Answer}
pub use Rattle.scf_insn.specs.declared.answer.Disposition.{Disposition}
pub use Rattle.scf_insn.specs.declared.insn.Insn.{Insn}
pub use Rattle.scf_insn.specs.declared.operation.Arithmetic.{Arithmetic}
pub use Rattle.scf_insn.specs.declared.operation.Arithmetic.TheVariants.{Add, And, Div, Lsh, Mul, Or, Rsh, Sub, Xor}
pub use Rattle.scf_insn.specs.declared.operation.Operand.TheVariants.{Constant}
pub use Rattle.scf_insn.specs.declared.operation.Operation.{Operation}
pub use Rattle.scf_insn.specs.declared.operation.Operation.TheVariants.{LoadWord}
pub use Rattle.scf_insn.specs.declared.operation.Register.{Register}
pub use Rattle.scf_insn.specs.declared.operation.Register.TheVariants.{A}
pub use Rattle.scf_insn.specs.declared.operation.Test.TheVariants.{CommonBit}
pub use Rattle.scf_insn.specs.declared.record.CallRecord.{CallRecord}
pub use Rattle.scf_machine.proofs.Common.{Ends, EndsAt, Fault, Faults, Goes, IsFine, IsPlainInsn, IsPlainProgram, IsReturn, IsValidList, Outcome, RunAnswers, RunsSafely, StackAnswers, Stands, State, effect, holds, ints, jumps_to, loads, operand_of, sets, slice_get-get_or, slice_get_within, start, step, unless, value_computed}
pub use Rattle.scf_machine.proofs.Runs.{fine_of, run_length, runs_safely, same_insn}
pub use Rattle.scf_machine.proofs.Stacks.{one_answers, stack_answer_once}
pub use Rattle.scf_profile.proofs.Answering.{one_answer}
pub use Rattle.scf_profile.proofs.Common.{All-from_recursion, IsRule, get_or-take, AreNumbersOf, All-cons, All-contains, All-nil, AnswersRelated, HaveNoConflict, IsPlainCondition, IsPlainRule, Profile, ProfileAnswers, SameAnswers, all_hold, and_le_l, by_default, by_rule, cases_Bool, le-ltb, meets, ne_eqb, or_comm, or_lt, rules_of}
pub use Rattle.scf_profile.proofs.NumberLists.{number_among, numbers_rise, own_all, sum_of_own}
pub use Rattle.scf_profile.proofs.Numbers.{contains_filtered}
pub use Rattle.scf_profile.specs.declared.condition.Condition.{Condition}
pub use Rattle.scf_profile.specs.declared.condition.Operator.TheVariants.{Equal, NotEqual}
pub use Rattle.scf_profile.specs.declared.number_rules.NumberRules.{NumberRules}
pub use Rattle.scf_profile.specs.declared.rule.Rule.{Rule}
pub use Rattle.scf_compare.specs.Effort.{conditions_size, rules_size, saturated, stack_paths}
pub use Rattle.scf_compare.specs.Paths.{size_of_insn, tree_size}
unfoldable pub use Rattle.scf_compare.specs.Paths.{tree_sizes}
pub use Rattle.scf_profile.specs.Relation.{IsRelated}
pub use Rattle.scf_profile.specs.Scope.{IsInScope, RelatedAnswersIn, SameAnswersIn}
pub use Rattle.scf_compare.specs.Findings.{AllRelated, Compared, IsTrueFinding, compared_in}
pub use Rattle.scf_compare.specs.Sides.{behavior_of, filter_at, stack_behavior}
pub use Rattle.scf_compare.specs.Verdicts.{IsDecided, IsTrueOf, IsTrueOfStackBy, finding_of}
pub use Rattle.scf_compare.specs.declared.finding.Finding.{Finding}
pub use Rattle.scf_compare.specs.declared.finding.Which.{Which}
pub use Rattle.scf_compare.specs.declared.filter.FilterLeaf.{FilterLeaf}
pub use Rattle.scf_compare.specs.declared.filter.FilterNode.{FilterNode}
pub use Rattle.scf_compare.specs.declared.control_flow.ControlFlow.{ControlFlow}
pub use Rattle.scf_compare.specs.declared.control_flow.ControlFlow.TheVariants.{ConditionalJump, DivideByIndex, Jump, FallThrough, ReturnAccumulator, ReturnConstant}
pub use Rattle.scf_compare.specs.declared.frontier.Frontier.{Frontier}
pub use Rattle.scf_compare.specs.declared.profile.ConditionPosition.{ConditionPosition}
pub use Rattle.scf_compare.specs.declared.registers.KnownRegisters.{KnownRegisters}
pub use Rattle.scf_profile.specs.declared.relation.Relation.{Relation}
pub use Rattle.scf_profile.specs.declared.relation.Relation.TheVariants.{NoLess, NoMore, Same}
pub use Rattle.scf_profile.specs.declared.scope.Scope.{Scope}
pub use Rattle.scf_compare.specs.declared.side.Side.{Side}
pub use Rattle.scf_compare.specs.declared.side_tree.SideLeaf.{SideLeaf}
pub use Rattle.scf_compare.specs.declared.stack.StackNode.TheVariants.{At}
pub use Rattle.scf_compare.specs.declared.step.Step.{Step}
pub use Rattle.scf_compare.specs.declared.step.Step.TheVariants.{Branch}
pub use Rattle.scf_compare.specs.declared.value.Decision.{Decision}
pub use Rattle.scf_compare.specs.declared.verdict.Verdict.{Verdict}
pub use Rattle.scf_compare.specs.Leaves.{IsSideLeaf}
pub use Rattle.scf_compare.specs.internal.Leaves.{AreWordsIn, IsFirstUndecided, WereSeen, side_leaves}
pub use Rattle.scf_compare.specs.internal.Filters.{ComesTo, EndsWith, IsFilterEnd, IsStepOf, filter_size, filter_tree}
pub use Rattle.scf_compare.specs.internal.ControlFlow.{IsInside, UsesScratch, control_flow_at, size_of_flow}
pub use Rattle.scf_compare.specs.internal.Frontier.{GivesAnswer, IsAhead, IsExact, IsFrontier, LearnsAmong, open_size}
pub use Rattle.scf_compare.specs.internal.Laws.{paths_count, scaled_costs, side_size_counts, spread_counts}
pub use Rattle.scf_compare.specs.internal.NumberedProfiles.{IsNumbered, NumberedProfile}
pub use Rattle.scf_compare.specs.internal.KnownBits.{IsLowEnd}
pub use Rattle.scf_compare.specs.internal.Profiles.{IsAtCondition, IsAtRule, IsFrom, numbers_size, own_conditions, own_rules, size_behind}
pub use Rattle.scf_compare.specs.internal.Stacks.{IsStackLeaf, stack_is_node, stack_is_plain, stack_reaches, stack_size}
pub use Rattle.scf_compare.specs.internal.Stages.{GoesOver, finding_of_all}
pub use Rattle.scf_compare.specs.internal.Trees.{GoesOn, Tree}
pub use Rattle.scf_compare.specs.internal.Values.{Decides, Describes, IsMaskedValue}
