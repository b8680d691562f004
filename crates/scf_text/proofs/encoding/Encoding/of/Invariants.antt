use Rattle.scf_text.proofs.Common.{◌≡◌, drop, map, find, known_encodings, tells_all, encoding_view}
use Rattle.scf_text.proofs.encoding.Encoding.of.Given as goal

-- no encoding so far tells all of the instruction
abbrev pub invariant-loop-encoding : goal.invariant-loop-encoding
invariant-loop-encoding l = record {
  items : map encoding_view l.encoding-items ≡ known_encodings;
  untold : find (tells_all l.insn) known_encodings
      ≡ find (tells_all l.insn) (map encoding_view (drop l.encoding-index l.encoding-items));
}
