-- The names that proofs of this crate cite, passed on from one place. Declares nothing.
pub use Rattle.std.proofs.Common.{All, AllPairs, Bool, Contains, IsTrue, List, Some, [], ap, append_assoc, arith, rules as auto_rules, bit_and, cond, drop, eqb, false, get_or, inl, inr, leb, length, length-append, ltb, map, max, min, not, Option, None, refl, rules, slice_get, slice_index, subst, suc, sum_by, sym, take, tests, true, zero, ℕ, ◌%◌, ◌*◌, ◌++◌, ◌+◌, ◌-◌, ◌/◌, ◌<◌, ◌^◌, ◌∙◌, ◌∷◌, ◌≡◌, ◌≢◌, ◌≤◌, ◌⊎◌}
pub use Rattle.std.proofs.Math.Seq.{drop-append-add}
pub use Rattle.std.proofs.lemmas.List.{get_or-append-add, get_or_append_left, get_or_default, nil_from_length}
pub use Rattle.std.proofs.lemmas.Fn.{filter_same}
pub use Rattle.std.proofs.lemmas.List.Elements.{All-cons, All-head, All-tail}
pub use Rattle.std.proofs.lemmas.List.Kept.{AllPairs-from_increasing}
pub use Rattle.std.proofs.lemmas.List.Filters.{length-filter_both, sum_by-filter_both}
pub use Rattle.std.proofs.lemmas.List.Sums.{sum_by-append, sum_by-cons, sum_by-le, sum_by_more}
pub use Rattle.std.proofs.lemmas.Map.Steps.{length-le_from_distinct_below}
pub use Rattle.std.proofs.lemmas.Nat.{and_mask}
pub use Rattle.std.proofs.lemmas.Nat.Bits.{and_pow, bit_at-lt}
pub use Rattle.std.proofs.lemmas.Option.{same_Some, slice_get-get_or}
pub use Rattle.std.specs.Int.Bits.{and_zero_l, and_zero_r}
pub use Rattle.std.specs.List.{filter, find}
pub use lib.Pointwise.{pointwise, pointwise_decides}
pub use Rattle.scf_insn.proofs.Codes.{asks_for}
pub use Rattle.scf_insn.proofs.Common.{IsPowerOfTwo, IsRecord, IsSimpleMask, and_mod, and_shr, argument, bpf_maxinsns, drop_more, high, low, mask_kind, seccomp_ret_kill_process, words_of}
unfoldable pub use Rattle.scf_insn.proofs.Common.{operation_of}
pub use Rattle.scf_insn.proofs.Halves.{argument_high, argument_low}
pub use Rattle.scf_insn.proofs.Masks.{IsOfKind, is_of_kind}
pub use Rattle.scf_insn.specs.Architectures.{AreApart, IsOf, argument_in, row_of, taken_of}
pub use Rattle.scf_insn.specs.declared.answer.Answer.{Answer}
pub use Rattle.scf_insn.specs.declared.architecture.Architecture.{Architecture}
pub use Rattle.scf_insn.specs.declared.architecture.ArgumentBits.{ArgumentBits}
pub use Rattle.scf_insn.specs.declared.architecture.ArgumentBits.TheVariants.{Bits32, Bits64}
pub use Rattle.scf_insn.specs.declared.insn.Insn.{Insn}
pub use Rattle.scf_insn.specs.declared.mask.MaskKind.{MaskKind}
pub use Rattle.scf_insn.specs.declared.mask.MaskKind.TheVariants.{Empty, Full, Mixed, OneBit}
pub use Rattle.scf_insn.specs.declared.operation.Arithmetic.TheVariants.{And}
pub use Rattle.scf_insn.specs.declared.operation.Operand.TheVariants.{Constant}
pub use Rattle.scf_insn.specs.declared.operation.Operation.{Operation}
pub use Rattle.scf_insn.specs.declared.operation.Operation.TheVariants.{Compute, Jump, JumpIf, LoadScratch, LoadWord, ReturnConstant}
pub use Rattle.scf_insn.specs.declared.operation.Test.{Test}
pub use Rattle.scf_insn.specs.declared.operation.Test.TheVariants.{Greater as Above, GreaterOrEqual as AtLeast, CommonBit, Equal, GreaterOrEqual, Equal as SameWord}
pub use Rattle.scf_insn.specs.declared.record.CallRecord.{CallRecord}
pub use Rattle.scf_machine.proofs.Chains.{answer_of_part, chain_of_part, part_between, run_behind}
pub use Rattle.scf_machine.proofs.Common.{All-push, Goes, IsFine, IsFineAt, IsPart, IsPlainOperation, IsPlainProgram, IsReturn, IsRunFrom, IsValidList, KeepsScratchRule, RunAnswers, Stands, gets, holds, moved, slice_get_read, slice_get_within, step, take_more, test_holds}
pub use Rattle.scf_machine.proofs.Meets.{run_once}
pub use Rattle.scf_profile.proofs.Common.{All-contains, All-contains_itself, All-filter, All-from_recursion, All-map, AllByRecursion, AreConditions, AreNumbersOf, Contains-permutation, HaveDistinctIndices, IfOk-weaker, IsCondition, IsPlainCondition, IsPlainProfile, IsPlainRule, IsProfile, IsRule, Profile, ProfileAnswers, SameAnswers, all_hold, and_assoc, and_self, bit_at, cases_Bool, cases_eq, cases_lt, common_steps, eq-eqb, eqb-false, eqb-true, foreign, get_or-map, le-leb, length-drop, length-map, list_any, lt-ltb, meets, nat_tests, ne_eqb, numbers_of, recursion_from_All, rules_of, take_all}
pub use Rattle.scf_profile.proofs.NumberLists.{count_of_numbers, each_number, number_in, own_some, sum_of_rules}
pub use Rattle.scf_profile.proofs.Numbers.{number_there}
pub use Rattle.scf_profile.specs.Profile.{AreOfApart}
pub use Rattle.scf_profile.specs.ProfileAnswers.{ProfilesAnswer, by_stub}
pub use Rattle.scf_profile.specs.SameAnswers.{SameAnswersAsEach}
pub use Rattle.scf_profile.specs.contracts.condition.ConditionPartialEq.TheImpl.{eq-value}
pub use Rattle.scf_profile.specs.Stub.{is_stubbed, stub_answer}
pub use Rattle.scf_profile.specs.declared.condition.Condition.{Condition}
pub use Rattle.scf_profile.specs.declared.condition.Operator.{Operator}
pub use Rattle.scf_profile.specs.declared.condition.Operator.TheVariants.{Greater, Less, LessOrEqual, MaskedEqual, NotEqual}
pub use Rattle.scf_profile.specs.declared.number_rules.NumberRules.{NumberRules}
pub use Rattle.scf_profile.specs.declared.rule.Rule.{Rule}
pub use Rattle.scf_compile.specs.SearchBound.{AnswersWithin, digits_within, greatest, rules_steps, search_bound_of, search_bound_of_each}
unfoldable pub use Rattle.scf_compile.specs.SearchBound.{binary_digits}
pub use Rattle.scf_compile.specs.SizeBound.{number_count, stub_count, rule_bound, size_bound_of, size_bound_of_each}
pub use Rattle.scf_compile.specs.declared.dispatch.Search.{Search}
pub use Rattle.scf_compile.specs.declared.placing.Position.{Position}
pub use Rattle.scf_compile.specs.declared.ranges.NrRange.{NrRange}
pub use Rattle.scf_compile.specs.internal.Blocks.{argument_word, bit_code, condition_code, exits, half_code_of, narrow_code, test_code, value_of, wide_code, word_code}
unfoldable pub use Rattle.scf_compile.specs.internal.Blocks.{half_code, masked_code, order_code}
pub use Rattle.scf_compile.specs.internal.Dispatch.{AllStand, AreTestsPut, IsDispatchPut, IsGatePut, IsGated, IsSearched, audit_of}
pub use Rattle.scf_compile.specs.internal.Filters.{AnswersCall, ArePut, AreSearched, AreSearchesOf, IsFilterOf, IsSearchOf, IsSearchPut, MayBePut, behind_rule, conditions_code, most_ranges, own_answer, rule_code, Answers, AnswersRules}
pub use Rattle.scf_compile.specs.internal.Insns.{and_with, jump_if, jump_over, load_word, return_with}
pub use Rattle.scf_compile.specs.internal.Placing.{IsFirst, IsPut, branch_code, code_from, skip_code}
pub use Rattle.scf_compile.specs.internal.Runs.{EndsWithin, at}
pub use Rattle.scf_compile.specs.internal.Sound.{AreSound, IsSound, Keeps}
pub use Rattle.scf_compile.specs.internal.NrRanges.{AllRules, AreAllRanges, AreServed, AreRangesOf, AreRangesOfRules, AreRangesUpTo, IsStubStart, ranges_below, AreEffective, IsLaid, IsServed, StandsFor, begins, first_answer, continues, rules_bound, range_bound}
pub use Rattle.scf_compile.specs.declared.values.ArgumentValue.{ArgumentValue}
pub use Rattle.scf_compile.specs.internal.Values.{AreValuesBefore, AreValuesOf, AreValuesPut, IsArgumentValue, IsValueOf, IsValueSearchPut, value_answer}
