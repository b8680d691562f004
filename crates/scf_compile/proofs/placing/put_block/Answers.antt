use Rattle.scf_compile.proofs.Common.{rules, ◌≡◌, ◌-◌, ap, ◌∙◌, refl, inr, arith, drop, length, length-append}
use Rattle.scf_compile.proofs.placing.put_block.Goals as goal

pub returns : goal.returns
returns c =
    let whole = c.in_ok-put_front.ensures in
    let after = c.put_front.new.code.items in
    let len : c.len-2.result ≡ length after = search rules in
    let all : length after - c.len-2.result ≡ 0 = omega arith in
    record {
      front = c.args.block.now;
      whole = whole;
      put = inr refl;
      few = rw (whole, length-append) (omega arith);
      behind = c.args.code.now.items;
      there = ap (λ n. drop n after) all ∙ whole;
      near = record { stands = omega arith; near = omega (arith, rw length-append at (ap length whole)) };
    }
