use Rattle.scf_insn.proofs.Common.{◌≡◌, take, true, list_all, is_digit, digits_value, IsWithinRange}
use Rattle.scf_insn.proofs.number.parse_numeral.Given as goal

abbrev pub invariant-loop-byte : goal.invariant-loop-byte
invariant-loop-byte l = record {
  digits : list_all (λ digit. is_digit digit l.radix) (take l.byte-index l.digits) ≡ true;
  value : IsWithinRange l.value (digits_value l.radix (take l.byte-index l.digits));
}
