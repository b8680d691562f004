-- The names that proofs of this crate cite, passed on from one place. Declares nothing.
pub use Rattle.std.proofs.Common.{All, Bool, IfNone, IfSome, IsTrue, List, None, Option, Some, [], ap, arith, bit_and, bit_or, bit_xor, count_ones, drop, eqb, false, get_or, if◌then◌else◌, inl, inr, length, ltb, max, nat_lt, refl, replicate, rules, slice_get, slice_index, slice_set, subst, suc, sym, take, tests, true, zero, ℕ, ◌%◌, ◌*◌, ◌++◌, ◌+◌, ◌-◌, ◌/◌, ◌<◌, ◌^◌, ◌↔◌, ◌∙◌, ◌∷◌, ◌≡◌, ◌≢◌, ◌≤◌, ◌⊎◌}
pub use Rattle.std.proofs.Math.Nat.{add-mul, div-eq_of_lt, le-div_iff_mul-le, mod-lt, pow-succ'}
pub use Rattle.std.proofs.Math.Pow.{pow_mono, shr_mono}
pub use Rattle.std.proofs.lemmas.Bool.{ltb-false, ltb-true, ne_eqb, true_from_ne_false}
pub use Rattle.std.proofs.lemmas.Iterator.{YieldsList-from_slice, cases_from_any}
pub use Rattle.std.proofs.lemmas.List.{get_or-replicate, get_or-set_same, get_or_default, get_or_past, get_or_read, length-replicate}
pub use Rattle.std.proofs.lemmas.List.Elements.{All-from_recursion, All-pop, All-push, All-set, recursion_from_All}
pub use Rattle.std.proofs.lemmas.List.Sorted.{IsPartitionPoint-from_clause, IsPartitionedBy-ltb}
pub use Rattle.std.proofs.lemmas.List.Sums.{AllPass-from_list_all, list_all-from_AllPass}
pub use Rattle.std.proofs.lemmas.Nat.{and_assoc, and_comm, and_le_r, leading_length, leading_top, one_shl, or_disjoint, shr_split, xor_lt, xor_shr}
pub use Rattle.std.proofs.lemmas.Nat.Bits.{and_high_mask, and_pow, bit_at-lt, bit_at-trailing_zeros, bit_at-zero, bit_at_and, bit_at_or, bit_at_xor, ones_shl, same_from_bits}
pub use Rattle.std.proofs.lemmas.Option.{get_or_from_slice_get, gets}
pub use Rattle.std.specs.Int.{bit_at, is_power_of_two}
pub use Rattle.std.specs.Int.Bits.{and_zero_r, xor_self}
pub use Rattle.std.specs.Int.Count.{count_leading_zeros, count_trailing_zeros, leading_of_zero}
pub use Rattle.std.specs.List.{AllWithin}
pub use Rattle.scf_insn.proofs.Common.{AllByRecursion, IsPowerOfTwo, IsWords, cases_eq, cases_lt, common_steps, div-lt_iff_lt-mul, eq-eqb, eqb-false, eqb-true, length-set, list_all, nat_tests, pow_pos, take-append-drop, take_all, w32}
pub use Rattle.scf_insn.proofs.Masks.{one_bit_of_power, power_from_one_bit}
pub use Rattle.scf_facts.specs.Atoms.{answer_at, atom_answer, word_of}
pub use Rattle.scf_facts.specs.Bits.{HasBits, LacksBits}
pub use Rattle.scf_facts.specs.HighMask.{IsHighMask}
pub use Rattle.scf_facts.specs.Intervals.{LiesIn, LiesInOne}
pub use Rattle.scf_facts.specs.Levels.{IsSameLevel}
pub use Rattle.scf_facts.specs.WordSets.{AllowsNumber, AllowsWords, NumberFacts}
pub use Rattle.scf_facts.specs.declared.atom.Atom.{Atom}
pub use Rattle.scf_facts.specs.declared.bits.Bits.{Bits}
pub use Rattle.scf_facts.specs.declared.interval.Interval.{Interval}
pub use Rattle.scf_facts.specs.declared.learned.Learned.{Learned}
pub use Rattle.scf_facts.specs.internal.Bits.{SomeLack}
pub use Rattle.scf_facts.specs.internal.Intervals.{AreApart, AreApartFrom, ArePartsOf}
pub use Rattle.scf_facts.specs.internal.Learned.{AllowsByLearned, Holds}
pub use Rattle.scf_facts.specs.internal.WordSets.{EachNumber, SomeNumber, are_exact_sets, is_exact_set, no_facts}
