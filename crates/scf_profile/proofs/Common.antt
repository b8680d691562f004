-- The names that proofs of this crate cite, passed on from one place. Declares nothing.
pub use Rattle.std.proofs.Common.{length-drop, drop-cons, IsUtf8, bytes_eq, Ordering, Less, All, AllPairs, Any, BTreeMap, Bool, Bor, Contains, Err, Global, IfErr, IfSome, IsSome, List, None, Ok, Option, Result, Some, String, Vec, [], add-one, ap, arith, bit_and, bit_or, cond, drop, eqb, false, get_or, inl, inr, is_none, is_some, leb, length, ltb, map, min, nat_lt, not, ok_or, option_map, refl, rules, subst, suc, sum, sym, take, tests, true, vec_len, zero, ℕ, ◌&&◌, ◌++◌, ◌+◌, ◌-◌, ◌<◌, ◌^◌, ◌||◌, ◌↔◌, ◌∙◌, ◌∷◌, ◌≡◌, ◌≢◌, ◌≤◌, ◌⊎◌}
pub use Rattle.serde_json.specs.Data.{Data, Items, item, no_items}
pub use Rattle.serde_json.specs.Events.{items_len, members_len}
pub use Rattle.serde_json.specs.Find.{as_str}
pub use Rattle.serde_json.specs.View.{items_view, members_view, view}
pub use Rattle.serde_json.specs.declared.value.Value.{Value}
pub use Rattle.std.proofs.lemmas.Bool.{both_ways, cases_Bool, cases_order, false_from_ne_true, false≢true, le-leb, le-ltb, not_from_false, or_parts}
pub use Rattle.std.proofs.lemmas.Bool.Decides.{Decides-eqb}
pub use Rattle.std.proofs.lemmas.Cmp.{nat_cmp_total}
pub use Rattle.std.proofs.lemmas.Iterator.{YieldsList-from_slice, cases_from_all}
pub use Rattle.std.proofs.lemmas.Iterator.Search.{all_from_yields_List, any_from_yields_List, true_from_All}
pub use Rattle.std.proofs.lemmas.List.{get_or_default, get_or-map, get_or-take, get_or_past, length-map, length-take, map-append}
pub use Rattle.std.proofs.lemmas.List.Edits.{map_over_more}
pub use Rattle.std.proofs.lemmas.List.Elements.{All-append, All-cons, All-contains, All-contains_itself, All-filter, All-from_recursion, All-head, All-map, All-more, All-nil, All-push, All-same, All-tail, All-weaker, Contains-append_right, Contains-get_or, filter-append, filter_map-append, filter_passes, recursion_from_All}
pub use Rattle.std.proofs.lemmas.List.Concat.{flat_map-cons}
pub use Rattle.std.proofs.lemmas.List.Folds.{list_all-map, list_any-append}
pub use Rattle.std.proofs.lemmas.List.Kept.{AllPairs-cons, AllPairs-filter, AllPairs-from_increasing, IsStrictlySortedBy-filter}
pub use Rattle.std.proofs.lemmas.List.Sorted.{All-permutation, Contains-permutation, IsPermutation-cons, IsPermutation-refl, IsPermutation-remove, IsPermutation-sym, IsPermutation-trans, length_permutation, sum_by-IsPermutation}
pub use Rattle.std.proofs.lemmas.List.Splits.{length-slice_split, slice_split-cons_yes, slice_split_at, slice_split_none}
pub use Rattle.std.proofs.lemmas.List.Sums.{length-filter, count_by-le-length, AllPass-from_list_all, list_all-from_AllPass, sum-map, sum_by-cons, sum_by-le}
pub use Rattle.std.proofs.lemmas.Map.Entries.{lookup-filter-values, option_filter}
pub use Rattle.std.proofs.lemmas.Map.Keys.{IsDistinct-IsPermutation, IsDistinct-from_sorted, IsDistinct-head, IsDistinct-tail, IsStrictlyIncreasing-from_sorted}
pub use Rattle.std.proofs.lemmas.Map.Lookups.{exact_bytes, exact_unsigned}
pub use Rattle.std.proofs.lemmas.Map.Made.{Contains-tail, IsDistinct-from_AllPairs}
pub use Rattle.std.proofs.lemmas.Map.Views.{All-found, Contains-keys_from_lookup, IsSome-lookup_from_Contains, btree_map_contains_key_iff, tells_apart}
pub use Rattle.std.proofs.lemmas.Nat.{and-not, and_mask, and_assoc, and_comm, and_le_l, and_or_apart, or_comm, or_lt}
pub use Rattle.std.proofs.lemmas.Nat.Bits.{bit_at_and, bit_at_or, same_from_bits}
pub use Rattle.std.proofs.Math.Nat.{mod-eq_of_lt}
pub use Rattle.std.proofs.lemmas.Result.{IfErr-at_err, IfOk-weaker, MatchResult-weaker}
pub use Rattle.std.proofs.lemmas.Str.{IsUtf8-from_ascii}
pub use Rattle.std.proofs.lemmas.Str.Ascii.{IsAscii-from_all}
pub use Rattle.std.proofs.lemmas.Simd.{map-map}
pub use Rattle.std.specs.BTreeMap.{IsOrdered, Updates, is_at, get as value_of}
pub use Rattle.std.specs.Cmp.{eq_by_cmp_equiv}
pub use Rattle.std.specs.Cmp.Lexicographic.{nat_list_cmp_total, slice_cmp}
pub use Rattle.std.specs.FinMap.{get, get-empty, get-from_entries, get-insert, insert, same_map}
pub use Rattle.std.specs.Int.{bit_at}
pub use Rattle.std.specs.Int.Bits.{and_self, or_add_and}
pub use Rattle.std.specs.List.{cons_option, filter, find, fold, filter_map, list_all, list_any, reduce, remove, slice_split, sum_by}
unfoldable pub use Rattle.std.specs.List.{IsDistinct}
pub use Rattle.std.specs.List.Sorted.{IsPermutation, IsStrictlyIncreasing}
pub use Rattle.std.specs.Map.{keys_of}
pub use Rattle.std.specs.Option.{option_map_or}
pub use Rattle.std.specs.Ordering.{eq_by_cmp, nat_cmp}
pub use Rattle.std.specs.Str.Lines.{lines, lines_of_parts, strip_carriage_return}
pub use Rattle.scf_insn.proofs.Common.{AllByRecursion, IsRecord, append-nil, append_assoc, and_parts, argument, cases_eq, cases_lt, common_steps, drop_all, eq-eqb, eqb-false, eqb-true, err_from_is_err_and, lookup, lt-ltb, nat_tests, ne_eqb, seccomp_data_args, seccomp_ret_kill_process, take-append-drop, take_all, x32_syscall_bit}
pub use Rattle.scf_insn.specs.Architectures.{AreApart, IsOf, architectures, argument_in, greatest_argument, row_of, taken_of}
pub use Rattle.scf_insn.specs.declared.architecture.Architecture.{Architecture}
pub use Rattle.scf_insn.specs.declared.architecture.Architecture.TheVariants.{X8664}
pub use Rattle.scf_insn.specs.declared.architecture.ArgumentBits.{ArgumentBits}
pub use Rattle.scf_insn.specs.declared.architecture.ArgumentBits.TheVariants.{Bits32, Bits64}
pub use Rattle.scf_insn.specs.declared.answer.Answer.{Answer}
pub use Rattle.scf_insn.specs.declared.record.CallRecord.{CallRecord}
pub use Rattle.scf_profile.specs.Condition.{compares, condition_holds}
unfoldable pub use Rattle.scf_profile.specs.JsonMembers.{each}
pub use Rattle.scf_profile.specs.Limits.{max_rules}
pub use Rattle.scf_profile.specs.Loading.{EntriesConflict, IsFirstConflict, IsLeastConflict, IsText, Loads, Refuses, RefusesAs, RefusesEachAs, TestsGive}
pub use Rattle.scf_profile.specs.NamedCalls.{AreCallsOf, HasItsNames}
pub use Rattle.scf_profile.specs.Names.{AreSorted, names_of}
pub use Rattle.scf_profile.specs.NumberRules.{AreNumbersOf, AreRising}
pub use Rattle.scf_profile.specs.PlainProfile.{IsPlainCondition, IsPlainProfile, IsPlainRule}
pub use Rattle.scf_profile.specs.Profile.{Profile as Answering, AreOfApart, HaveNoConflict, IsProfile, Profile}
pub use Rattle.scf_profile.specs.ProfileAnswers.{OfFirst, ProfileAnswers, ProfilesAnswer, by_default, by_rule, by_stub, foreign}
pub use Rattle.scf_profile.specs.Readings.{alternatives, compares_nothing, conditions_read, has_repeated_index, effective_profile, effective_rules, is_effective, is_unconditional}
pub use Rattle.scf_profile.specs.Reasons.{IsAnswerOf, IsReason, entries_met}
pub use Rattle.scf_profile.specs.References.{texts_at}
pub use Rattle.scf_profile.specs.Rule.{AreConditions, Conflicts, HaveDistinctIndices, IsCondition, IsRule, all_hold, meets}
pub use Rattle.scf_profile.specs.RulesByNumber.{numbers_of, rules_of}
pub use Rattle.scf_profile.specs.SameAnswers.{AnswersRelated, SameAnswers}
pub use Rattle.scf_profile.specs.StatedProfile.{Tables, is_named, rules_of_entry, profile_for, listed_names, other_names, profiles_from, rules_from, rules_numbered, numbers_named, skipped_names, strings_of, table_for, tables_of, with_stub}
unfoldable pub use Rattle.scf_profile.specs.StatedProfile.{answer_in, condition_of, condition_of as condition_stated, entry_of, errno_of, no_engine_form, all_listed, entries_of, profiles_of, seccomp_of}
pub use Rattle.scf_profile.specs.Steps.{◌>>=◌}
pub use Rattle.scf_profile.specs.Stub.{is_stubbed, stub_answer}
pub use Rattle.scf_profile.specs.Table.{AreCallNumbers, BeginWithCall, Names, entry_in, fields, is_separator, is_in_name, is_call_name, table_of, with_entry}
unfoldable pub use Rattle.scf_profile.specs.Table.{with_lines}
pub use Rattle.scf_profile.specs.declared.condition.Condition.{Condition}
pub use Rattle.scf_profile.specs.declared.conflict.Clash.{Clash}
pub use Rattle.scf_profile.specs.declared.load_fault.LoadFault.{LoadFault}
pub use Rattle.scf_profile.specs.declared.load_fault.LoadFault.TheVariants.{Kind}
pub use Rattle.scf_profile.specs.declared.loaded.Loaded.{Loaded}
pub use Rattle.scf_profile.specs.declared.loaded.LoadedProfiles.{LoadedProfiles}
pub use Rattle.scf_profile.specs.declared.architecture_table.ArchitectureTable.{ArchitectureTable}
pub use Rattle.scf_profile.specs.declared.named_call.NamedCall.{NamedCall}
pub use Rattle.scf_profile.specs.declared.number_rules.NumberRules.{NumberRules}
pub use Rattle.scf_profile.specs.declared.number_set.NumberSet.TheVariants.{Masked}
pub use Rattle.scf_profile.specs.declared.reading.Reading.{Reading}
pub use Rattle.scf_profile.specs.declared.reason.Reason.{Reason}
pub use Rattle.scf_profile.specs.declared.reason.Reason.TheVariants.{Default, Entry, Foreign, Stub}
pub use Rattle.scf_profile.specs.declared.rule.Rule.{Rule}
pub use Rattle.scf_profile.specs.declared.table_fault.TableFault.{TableFault}
pub use Rattle.scf_profile.specs.internal.Clashes.{IsBoundedBy, IsClashBounded, IsClashOf, IsLeastClash}
pub use Rattle.scf_profile.specs.internal.EntryRanges.{AddsRules, AreStatedRules, HasSkipped, IsEntry, TellsOneTooMany, TellsTooMany, is_in_none, names_lacking}
pub use Rattle.scf_profile.specs.internal.NamesByNumber.{AreByNumber, Named, named_call, names_under, names_with}
pub use Rattle.scf_profile.specs.internal.NumberSets.{HaveCommonNumber, IsGreatestOf, IsLeastOf}
pub use Rattle.scf_profile.specs.internal.Overlaps.{HoldAt, Overlap, OverlapAt}
pub use Rattle.scf_profile.specs.internal.Refusals.{NamesFirstConflict, NamesLeastConflict}
pub use Rattle.scf_profile.specs.internal.RulesUnder.{AreUnder, Under, pair_of, rules_under}
pub use Rattle.scf_profile.specs.internal.Stated.{effective_of, loaded_profiles_of, stated_profile, with_machine}
