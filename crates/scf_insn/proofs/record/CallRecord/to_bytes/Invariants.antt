use Rattle.scf_insn.proofs.Common.{◌≡◌, ◌*◌, take, length, w32, to_le_bytes, flat_map, words_of}
use Rattle.scf_insn.proofs.record.CallRecord.to_bytes.Given as goal

abbrev pub invariant-loop-i : goal.invariant-loop-i
invariant-loop-i l = record {
  long : length l.bytes ≡ 64;
  written : take (4 * l.i) l.bytes ≡ flat_map (to_le_bytes w32) (take l.i (words_of l.self));
}
