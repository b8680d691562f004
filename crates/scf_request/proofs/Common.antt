-- The names that proofs of this crate cite, passed on from one place. Declares nothing.
pub use Rattle.std.proofs.Common.{◌||◌, All, Bool, Bor, Contains, Err, List, None, Option, Some, [], ap, append-nil, append_assoc, ap₂, arith, bytes_eq, codes, drop, eqb, false, find, fold, get_or, if◌then◌else◌, is_some, length, length-append, length-drop, map, not, option_map, option_to_list, refl, rules, subst, suc, sym, take, true, zero, ℕ, ◌&&◌, ◌++◌, ◌+◌, ◌-◌, ◌<◌, ◌^◌, ◌∙◌, ◌∷◌, ◌≡◌, ◌≢◌, ◌≤◌}
unfoldable pub use Rattle.clap.proofs.OnLiterals.{clap_on_literals}
pub use Rattle.clap.proofs.WalkLemmas.{first_value-rows}
pub use Rattle.clap.specs.Faults.{built_fault, check_fault, entered_fault, level_fault, settle_fault, turn_fault}
unfoldable pub use Rattle.clap.specs.Faults.{defaults_fault, walk_fault}
pub use Rattle.clap.specs.Kinds.{Kinds, or_else}
pub use Rattle.clap.specs.Simple.{built, built_leaf, entered, inherited, label_of, marked_built, names_of, rows_at, with_leaf_noted}
pub use Rattle.clap.specs.Walk.{Rule, Walk, answers_to, finished, idle, nothing_held, settled, stop_after, walk, walk_from}
unfoldable pub use Rattle.clap.specs.Walk.{walked}
pub use Rattle.clap.specs.Words.{AddsSubcommand, App, Row, Shape, Text, app_of, first_value, found_of, is_simple_and_free, new_app, rows_of, with_rule, with_subcommand}
pub use Rattle.clap.specs.declared.builder.command.Command.{Command}
pub use Rattle.clap.specs.declared.parser.matches.Found.{Found}
pub use Rattle.std.proofs.Math.Nat.{pow-le-pow_right}
pub use Rattle.std.proofs.Math.Seq.{take-add, take-append_seam}
pub use Rattle.std.proofs.lemmas.Bool.{ltb-true, not-true}
pub use Rattle.std.proofs.lemmas.Int.Digits.{digits_value-lt}
pub use Rattle.std.proofs.lemmas.List.{append_cancel_left, length-take-le, map_more, map_push}
pub use Rattle.std.proofs.lemmas.List.Folds.{list_all-append}
pub use Rattle.std.proofs.lemmas.Option.{cond_some}
pub use Rattle.std.specs.List.{filter_map}
pub use Rattle.std.specs.Str.Parse.{AllDigits}
pub use Rattle.scf_insn.proofs.Common.{ReadsNumber, and_from, and_parts, digits_value, drop_more, is_digit, list_all, ne_eqb, numeral, take-append-drop, take_all, take_more}
pub use Rattle.scf_insn.specs.Architectures.{architectures, row_of}
pub use Rattle.scf_insn.specs.declared.architecture.Architecture.{Architecture}
pub use Rattle.scf_insn.specs.declared.architecture.Architecture.TheVariants.{X8664, X86}
pub use Rattle.scf_insn.specs.declared.number.NumeralFault.{NumeralFault}
pub use Rattle.scf_profile.proofs.Common.{All-contains, All-more, IfOk-weaker, err_from_is_err_and, filter_map-append, map-append, option_map_or, nat_tests}
pub use Rattle.scf_request.specs.Bundle.{AreNoParts, HasHeader, Held, IsBundlePart, IsHeader, IsPartFault, SpellsParts, content_of, held_of, holds_nothing, kind_word, split_kinds, with_part}
pub use Rattle.scf_request.specs.Options.{NumberOption, choice_in, first_wrong, is_given, number_by, number_in, one_of}
pub use Rattle.scf_request.specs.Requests.{CommandName as Asked, command_word}
pub use Rattle.scf_request.specs.Requests.CommandName.{Answers, Ask, Asm, Check, Compare, Compile, Decide, Dis, Run}
pub use Rattle.scf_request.specs.CommandLine.{flag_rule, scf, shape_for}
pub use Rattle.scf_request.specs.declared.bundle.BundleFault.{BundleFault}
pub use Rattle.scf_request.specs.declared.bundle.BundleFault.TheVariants.{Header, Memory, Short}
pub use Rattle.scf_request.specs.declared.bundle.Part.{Part}
pub use Rattle.scf_request.specs.declared.bundle.PartKind.{PartKind}
pub use Rattle.scf_request.specs.declared.bundle.PartKind.TheVariants.{Beside, BesideProfile, CountsOf, Filter, Profile, StubOf, Table, TableOf}
pub use Rattle.scf_request.specs.Contents.{held_by, rest_of_table}
pub use Rattle.scf_request.specs.declared.contents.PartReader.{PartReader}
pub use Rattle.scf_request.specs.declared.contents.TableReader.{TableReader}
pub use Rattle.scf_request.specs.internal.Contents.{architecture_kinds}
pub use Rattle.scf_request.specs.internal.Parsing.{IsNamed, ReadsAsProgram, bare, chosen_of, command_of, flags_in, names_of_flags, option_of, option_rule, options_kept, program_of, rules_of_options, scf_shape, scf_with, shape_of}
