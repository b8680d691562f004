use Rattle.scf_text.proofs.Common.{◌≡◌, drop, map, field_number, encodings, encoding_view, words_in}
use Rattle.scf_text.proofs.FormLemmas.{IsUnread}
use Rattle.scf_text.proofs.parsed_insn.read.Given as goal

abbrev pub invariant-loop-encoding : goal.invariant-loop-encoding
invariant-loop-encoding l = record {
  items : map encoding_view l.encoding-items ≡ encodings;
  unread : IsUnread field_number l.mnemonic (words_in l.part) encodings (map encoding_view (drop l.encoding-index l.encoding-items))
      l.is_known;
}
