use Rattle.scf_compare.proofs.Common.{◌+◌, ◌-◌, ◌*◌, ◌≤◌, arith, call_of, length, own_rules, refl}
use Rattle.std.proofs.Math.Nat.{mul-le-mul_right}
use Rattle.std.specs.List.{AllWithin}
use Rattle.scf_compare.proofs.Numbered.{at_later, costs_fewer}
use Rattle.scf_compare.specs.internal.KnownArguments.{IsRefuted}
use Rattle.scf_compare.proofs.by_number.ByNumber.pass_rules.Goals as goal

pub loop-rule-preserved : goal.loop-rule-preserved
loop-rule-preserved g c =
    let s = c.args.self.now in
    let own = own_rules s.numbers c.args.at.number in
    let rule = c.loop-rule.rule in
    let known = c.of-argument.result in
    let count = c.min-count.result in
    let run = rw c.rules_at-rules.ensures.rules at c.in-Some.ensures in
    let inside : rule + count ≤ length own = omega (arith, c.min-count.ensures, run.inside) in
    let refuted : AllWithin (λ r. IsRefuted known r.conditions) own rule (rule + count) = λ k d from lt.
    run.refuted k d from (omega (arith, c.min-count.ensures, lt)) in
    let few : c.in-Some.questions * count ≤ 2 * count = mul-le-mul_right count run.few in
    let room : 2 * count ≤ c.args.most - c.loop-rule.steps = omega (arith, c.min-count.ensures) in
    record {
      inside = inside;
      most = omega (arith, few, room, c.loop-rule.invariant.most);
      met = λ words w allowed at.
          let has =
          rw (c.argument_bits-bits.ensures, c.architecture.ensures, c.profile.ensures)
          at (c.of-argument.ensures.known words w allowed) in
          at_later own c.rule_at.result.now known rule s c.args.at.number _ (call_of words) refl c.of-argument.ensures.index has
          (c.loop-rule.invariant.met words w allowed at) count inside refuted;
      size = omega (arith, costs_fewer own c.rule_at.result.now known rule count inside refuted, few, c.loop-rule.invariant.size);
    }
