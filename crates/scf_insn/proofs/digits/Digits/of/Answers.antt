use Rattle.scf_insn.proofs.Common.{common_steps, ◌≡◌, ◌∙◌, drop, sym, arith, drop-set, length-set}
use Rattle.scf_insn.proofs.DigitLemmas.{first_digit, next_digit, last_digit, fewer, fewer_than_twenty, has_index}
use Rattle.scf_insn.proofs.digits.Digits.of.Goals as goal

pub loop-quotient-init : goal.loop-quotient-init
loop-quotient-init c = grind (arith, common_steps, fewer_than_twenty, first_digit)

pub loop-quotient-preserved : goal.loop-quotient-preserved
loop-quotient-preserved c = grind (arith, common_steps, drop-set, fewer, has_index, length-set, next_digit)

pub returns : goal.returns
returns c =
    let none : c.loop-quotient.quotient ≡ 0 = omega arith in
    sym (last_digit c.args.radix c.loop-quotient.start (drop c.loop-quotient.start c.loop-quotient.bytes))
    ∙ rw none at c.loop-quotient.invariant.so_far
