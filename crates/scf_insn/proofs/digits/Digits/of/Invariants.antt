use Rattle.scf_insn.proofs.Common.{◌≡◌, ◌<◌, ◌≤◌, ◌^◌, false, drop, length, digits}
use Rattle.scf_insn.proofs.DigitLemmas.{with_front}
use Rattle.scf_insn.proofs.digits.Digits.of.Given as goal

abbrev pub invariant-loop-quotient : goal.invariant-loop-quotient
invariant-loop-quotient l = record {
  room : length l.bytes ≡ 20;
  index : l.start ≤ 19;
  few : l.quotient < 10 ^ l.start;
  so_far : with_front l.radix l.start l.quotient (drop l.start l.bytes) ≡ digits l.radix false l.number;
}

abbrev pub decreases-loop-quotient : goal.decreases-loop-quotient
decreases-loop-quotient l = l.quotient
