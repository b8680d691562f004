use Rattle.scf_compare.proofs.Common.{◌≡◌, ◌<◌, ℕ, length, slice_index}
use Rattle.scf_compare.specs.Splits.{bits_at}
use Rattle.scf_compare.proofs.fixed_bits.FixedBits.values.Given as goal

abbrev pub invariant-loop-index : goal.invariant-loop-index
invariant-loop-index l = record {
  count : length l.values ≡ 16;
  each : (k : ℕ) → k < l.index → slice_index l.values k ≡ (bits_at l.self.words k).value;
}
