use Rattle.scf_compile.proofs.Common.{rules, ◌≡◌, ◌-◌, ◌<◌, [], ap, ◌∙◌, refl, inl, arith, drop, length}
use Rattle.scf_compile.proofs.placing.find_block.Goals as goal

pub returns-then-stands_behind : goal.returns-then-stands_behind
returns-then-stands_behind c =
    let code = c.args.code.now.items in
    let passed = c.loop-passed.passed in
    let stands = c.if-stands_behind.ensures refl in
    let whole : c.len-2.result ≡ length code = search rules in
    let len : c.len-then-stands_behind.result ≡ length code = search rules in
    let end = c.min-passed-end.ensures in
    let inside : passed < length code = omega arith in
    let reached : passed < 255 = omega arith in
    let same : length code - (c.len-then-stands_behind.result - passed) ≡ passed = omega arith in
    record {
      front = [];
      whole = refl;
      put = inl refl;
      few = omega arith;
      behind = stands.0;
      there = ap (λ n. drop n code) same ∙ stands.1;
      near = record { stands = omega arith; near = omega arith };
    }
