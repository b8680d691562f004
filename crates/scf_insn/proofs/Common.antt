-- The names that proofs of this crate cite, passed on from one place. Declares nothing.
pub use Rattle.std.proofs.Common.{Bool, Err, List, Ok, Option, Result, Some, [], ap, append-nil, append_assoc, arith, bit_and, cond, count_ones, drop, eqb, false, get_or, inl, inr, leb, length, length-append, length-drop, length-take, lit<, ltb, map, refl, rules, slice_index, subst, suc, sym, take, true, vec_len, zero, ℕ, ◌%◌, ◌*◌, ◌++◌, ◌+◌, ◌-◌, ◌/◌, ◌<◌, ◌^◌, ◌∙◌, ◌∷◌, ◌≡◌, ◌≤◌, ◌⊎◌}
pub use Rattle.std.proofs.KnownBytes.{Appends-nil, Appends-trans, Consumes-trans}
pub use Rattle.std.proofs.Math.Nat.{div-lt_iff_lt-mul, mul-le-mul_left, pow-suc}
pub use Rattle.std.proofs.lemmas.Bool.{and_from, and_parts, cases_eq, cases_lt, eq-eqb, eqb-false, eqb-true, lt-ltb, ne_eqb}
pub use Rattle.std.proofs.lemmas.Bool.Decides.{nat_tests}
pub use Rattle.std.proofs.lemmas.Grind.{common_steps}
pub use Rattle.std.proofs.lemmas.Int.Digits.{digits_value_more}
pub use Rattle.std.proofs.lemmas.List.{drop-drop, drop-set, drop_all, drop_more, length-set, take-append-drop, take_all, take_more}
pub use Rattle.std.proofs.lemmas.List.Concat.{flat_map-append}
pub use Rattle.std.proofs.lemmas.Nat.{and_mod, and_shr, from_le_bytes-to_le_bytes_2, from_le_bytes-to_le_bytes_4, le_bytes_2, le_bytes_4, ones_le_self, pow_below, pow_pos, zero_from_ones}
pub use Rattle.std.proofs.lemmas.Result.{err_from_is_err_and}
pub use Rattle.std.proofs.lemmas.Slice.{take-put_mid}
pub use Rattle.std.specs.Char.{digit_value, is_digit}
pub use Rattle.std.specs.Fmt.{digit_glyph, digits, digits_onto}
pub use Rattle.std.specs.Int.{IsPowerOfTwo, from_le_bytes, to_le_bytes, w16, w32}
pub use Rattle.std.specs.Int.Count.{ones, ones_cat, ones_step}
pub use Rattle.std.specs.Io.KnownBytes.{Appends, Consumes}
pub use Rattle.std.specs.List.{AllByRecursion, flat_map, list_all}
pub use Rattle.std.specs.Map.{lookup}
pub use Rattle.std.specs.Str.Parse.{digits_value}
pub use borrow.Rule.Slice.PartMut.{put_mid}
pub use Rattle.scf_insn.specs.Answers.{IsNamed, IsNoMorePermissive, action_disposition, action_half, action_of, disposition_of, permissiveness_of, rank_of}
pub use Rattle.scf_insn.specs.Codes.{code_of, operations}
unfoldable pub use Rattle.scf_insn.specs.Codes.{operation_of}
pub use Rattle.scf_insn.specs.Insn.{IsInsn, insn_bytes, program_bytes}
pub use Rattle.scf_insn.specs.Kernel.{audit_arch_x86_64, bpf_maxinsns, bpf_memwords, max_filter_len, max_insns_per_path, seccomp_data_args, seccomp_data_len, seccomp_ret_allow, seccomp_ret_kill_process, x32_syscall_bit}
pub use Rattle.scf_insn.specs.Masks.{mask_kind}
pub use Rattle.scf_insn.specs.Numbers.{ReadsNumber, has_hex_prefix, numeral}
unfoldable pub use Rattle.scf_insn.specs.Numbers.{number_of}
pub use Rattle.scf_insn.specs.Readings.{read_len}
pub use Rattle.scf_insn.specs.SimpleMask.{IsSimpleMask}
pub use Rattle.scf_insn.specs.Streams.{GivesAtMost, GivesSome, TakesAll, TakesBeginning, Writes}
pub use Rattle.scf_insn.specs.Words.{IsRecord, IsWords, argument, call_of, halves, high, low, number_at, words_of}
pub use Rattle.scf_insn.specs.declared.insn.Insn.{Insn}
pub use Rattle.scf_insn.specs.declared.mask.MaskKind.{MaskKind}
pub use Rattle.scf_insn.specs.declared.mask.MaskKind.TheVariants.{Empty, Full, Mixed, OneBit}
pub use Rattle.scf_insn.specs.declared.operation.Arithmetic.{Arithmetic}
pub use Rattle.scf_insn.specs.declared.operation.Arithmetic.TheVariants.{Add, And, Div, Lsh, Mul, Or, Rsh, Sub, Xor}
pub use Rattle.scf_insn.specs.declared.operation.Operand.{Operand}
pub use Rattle.scf_insn.specs.declared.operation.Operand.TheVariants.{Constant, Index}
pub use Rattle.scf_insn.specs.declared.operation.Operation.{Operation}
pub use Rattle.scf_insn.specs.declared.operation.Operation.TheVariants.{Compute, CopyToAccumulator, CopyToIndex, Jump, JumpIf, LoadConstant, LoadLength, LoadScratch, LoadWord, Negate, ReturnAccumulator, ReturnConstant, StoreScratch}
pub use Rattle.scf_insn.specs.declared.operation.Register.TheVariants.{A, X}
pub use Rattle.scf_insn.specs.declared.operation.Test.{Test}
pub use Rattle.scf_insn.specs.declared.operation.Test.TheVariants.{CommonBit, Equal, Greater, GreaterOrEqual}
pub use Rattle.scf_insn.specs.declared.record.CallRecord.{CallRecord}
pub use Rattle.scf_insn.specs.internal.Numbers.{IsWithinRange}
