-- What the encodings and the drafts of the code stand for.
use Rattle.scf_text.specs.declared.parsed_insn.FieldValue.{FieldValue}
use Rattle.scf_text.specs.declared.parsed_insn.FieldValue.TheVariants as code
use Rattle.scf_text.specs.declared.parsed_insn.ParsedInsn.{ParsedInsn}
use Rattle.scf_text.specs.declared.encoding.Encoding as rows
use Rattle.scf_text.specs.ParsedInsns as parsed_insns
use Rattle.scf_text.specs.Encodings.{Encoding}

abbrev pub encoding_view : rows.Encoding → Encoding
encoding_view row = record { code = row.code; mnemonic = row.mnemonic.now; pieces = row.pieces.now }

abbrev pub field_value_view : FieldValue → parsed_insns.FieldValue
field_value_view (code.Number n) = parsed_insns.Number n
field_value_view (code.Label name) = parsed_insns.Label name.now

abbrev pub parsed_view : ParsedInsn → parsed_insns.ParsedInsn
parsed_view d = record {
  code = d.code;
  jt = field_value_view d.jt;
  jf = field_value_view d.jf;
  k = field_value_view d.k;
}
