-- The names that proofs of this crate cite, passed on from one place. Declares nothing.
pub use Rattle.std.proofs.Common.{Bool, Err, IfErr, IfOk, List, None, Ok, OnErr, Option, Result, Some, [], ap, append-nil, append_assoc, arith, codes, cond, drop, eqb, false, get_or, if◌then◌else◌, inl, inr, length, ltb, map, max, min, nat_eq, not, refl, rules, subst, suc, sym, take, true, zero, zero-add, ℕ, ◌%◌, ◌&&◌, ◌++◌, ◌+◌, ◌-◌, ◌/◌, ◌<◌, ◌==◌, ◌^◌, ◌||◌, ◌∙◌, ◌∷◌, ◌≡◌, ◌≢◌, ◌≤◌, ◌⊎◌}
pub use Rattle.std.proofs.Math.Path.{fun_ext}
pub use Rattle.std.proofs.Math.Seq.{drop-append-add, take-add, take-append-add, take-append_seam}
pub use Rattle.std.proofs.lemmas.Bool.{agree_below_at, and_left, and_right, cases_Bool, le-ltb, lt-leb, ltb-true}
pub use Rattle.std.proofs.lemmas.Bool.Decides.{same_from_decides}
pub use Rattle.std.proofs.lemmas.Fmt.{digits_is_IsNumeral}
pub use Rattle.std.proofs.lemmas.List.{drop-append-le, drop-take, get_or-map, get_or-take, get_or_default, length-append, length-drop, length-map, length-take-le, map-append, take-append-drop, take-append-le, take-take, take_all, take_rest}
pub use Rattle.std.proofs.lemmas.List.Elements.{All-append, All-contains, All-from_recursion, All-head, All-map, All-nil, All-push, All-tail, Contains-get_or, Contains-push, Contains-push_cases, Contains-append_cases, Contains-append_left, Contains-append_right, filter-append}
pub use Rattle.std.proofs.lemmas.List.Folds.{list_all-append}
pub use Rattle.std.proofs.lemmas.List.Splits.{join_with_byte-slice_split, length-slice_split, slice_split_at, slice_split_first, slice_split_none}
pub use Rattle.std.proofs.lemmas.List.Sums.{length-filter, prefix_len-le-length, prefix_len_stops}
pub use Rattle.std.proofs.lemmas.Slice.Eq.{bytes_eq-Decides}
pub use Rattle.std.proofs.lemmas.Str.Parse.{digit_from_value}
pub use Rattle.std.proofs.lemmas.Cmp.{nat_cmp_total, nat_eq_equiv, nat_list_cmp_total, nat_list_eq_equiv, on_total, then_total}
pub use Rattle.std.proofs.lemmas.List.Quantifiers.{all_pairs_push}
pub use Rattle.std.proofs.lemmas.List.Sorted.{IsPermutation-append_left, IsPermutation-map, IsPermutation-refl, IsPermutation-sym, IsPermutation-trans, Contains-permutation, length_permutation, ranks_by, sorted_far}
pub use Rattle.std.proofs.lemmas.Map.Keys.{IsDistinct-IsPermutation, IsDistinct-from_apart, apart_from_distinct}
pub use Rattle.std.proofs.lemmas.Map.Text.{is_eq-slice_cmp}
pub use Rattle.std.specs.Bool.{Decides, MatchBool}
pub use Rattle.std.specs.Borrow.{Bor}
pub use Rattle.std.specs.Cmp.{IsTotalOrder}
pub use Rattle.std.specs.Cmp.Lexicographic.{slice_cmp}
pub use Rattle.std.specs.Fmt.{decimal}
pub use Rattle.std.specs.Global.{Vec}
unfoldable pub use Rattle.std.specs.List.{IsDistinct}
pub use Rattle.std.specs.List.{All, Contains, enumerate_from, find, join_with_byte, list_any, position_or_len, filter, prefix_len, slice_split, take_while}
pub use Rattle.std.specs.List.Sorted.{IsNonDecreasing, IsPermutation, IsSortedBy}
pub use Rattle.std.specs.Option.{IsSome, MatchOption, is_some, option_and, option_map, option_or, option_to_list, unwrap_or}
pub use Rattle.std.specs.Ordering.{is_eq, is_lt, nat_cmp, ordering_reverse, ordering_then}
pub use Rattle.std.specs.declared.cmp.Ordering.{Ordering}
pub use Rattle.std.specs.declared.cmp.Ordering.TheVariants.{Equal, Greater, Less}
pub use Rattle.std.specs.Str.{bytes_eq}
pub use Rattle.std.specs.Str.Parse.{AllDigits, IsNumeral}
pub use Rattle.scf_insn.proofs.Common.{AllByRecursion, IsInsn, TakesAll, and_from, and_parts, bpf_maxinsns, cases_lt, digit_glyph, digit_value, digits, digits_value, drop-drop, drop_all, drop_more, eqb-true, err_from_is_err_and, flat_map, flat_map-append, has_hex_prefix, is_digit, list_all, lookup, lt-ltb, nat_tests, ne_eqb, numeral, take_more}
unfoldable pub use Rattle.scf_insn.proofs.Common.{number_of, operation_of}
pub use Rattle.scf_insn.proofs.Written.{each_fails, fails_first, writes_then}
pub use Rattle.scf_insn.specs.declared.insn.Insn.{Insn}
pub use Rattle.scf_insn.specs.declared.operation.Operation.{Operation}
pub use Rattle.scf_text.specs.Characters.{is_blank, is_line_end, is_word_byte}
pub use Rattle.scf_text.specs.ParsedInsns.{ParsedInsn, Label, Number, FieldValue, fill_by, has_mnemonic, is_below, is_in_range, is_name, read_by}
unfoldable pub use Rattle.scf_text.specs.ParsedInsns.{field_number, parsed_of}
pub use Rattle.scf_text.specs.Faults.{IsFault, ascii_fault, insn_fault, operands_fault, instruction_fault, label_fault, statements_fault, target_fault, targets_fault}
unfoldable pub use Rattle.scf_text.specs.Faults.{fault_of}
pub use Rattle.scf_text.specs.Encodings.{field_of, encodings, names, raw, tells_all}
unfoldable pub use Rattle.scf_text.specs.Encodings.{encoding_for, known_encodings}
pub use Rattle.scf_text.specs.Listing.{line_of, number_text, operands_text, piece_text, text_of}
pub use Rattle.scf_text.specs.Spelling.{Says, SaysEach, SaysInsn, Spells}
pub use Rattle.scf_text.specs.Statements.{SymbolTable, Statement, parsed_insns_by, parsed_insns_in, parsed_insns_of, instruction_in, label_in, labels_from, symbols_in, statements_of}
pub use Rattle.scf_text.specs.Tokens.{IsSliceOf, Lexeme, before_comment, joined, lexemes, lexemes_of_lines, lines_of, words_of_line}
unfoldable pub use Rattle.scf_text.specs.Tokens.{lexemes_from, tokens_of}
pub use Rattle.scf_text.specs.declared.fault.TextFault.{TextFault}
pub use Rattle.scf_text.specs.declared.encoding.Field.{Field}
pub use Rattle.scf_text.specs.declared.encoding.Field.TheVariants.{Code, Jf, Jt, K}
pub use Rattle.scf_text.specs.declared.encoding.Encoding.{Encoding}
pub use Rattle.scf_text.specs.declared.encoding.Piece.{Piece}
pub use Rattle.scf_text.specs.declared.encoding.Piece.TheVariants.{Len}
pub use Rattle.scf_text.specs.declared.encoding.Style.{Style}
pub use Rattle.scf_text.specs.declared.encoding.Style.TheVariants.{Decimal, FourDigits, Hexadecimal}
pub use Rattle.scf_text.specs.declared.numbered_insn.NumberedInsn.{NumberedInsn}
pub use Rattle.scf_text.specs.declared.token.Token.{Token}
pub use Rattle.scf_text.specs.internal.Parts.{begins_comment, begins_in_word, first_statement, is_semicolon, lines_after, statements_in, words_of_part}
unfoldable pub use Rattle.scf_text.specs.internal.Parts.{others_in, words_in}
pub use Rattle.scf_text.specs.internal.Labels.{IsFirstRepeat, IsRepeat, Labels, TellsRepeat, compared, index_of, is_before, labels_at, least, repeat_fault}
pub use Rattle.scf_text.specs.internal.Symbols.{FollowsBehind, count_ends, IsBehind, IsLinePart, LiesBehind, line_at, index_after, name_at}
pub use Rattle.scf_text.specs.internal.Reading.{AreKept, AreNew, HaveTokens, IsEnded, IsLeft, IsRead, Leaves, begins_of, parsed_insns_view, label_at, part_statements, statements_from}
pub use Rattle.scf_text.specs.internal.Results.{AddsInstruction, AddsLabel, TellsInsns, TellsText, indices_view}
pub use Rattle.scf_text.specs.internal.Views.{encoding_view, parsed_view}
