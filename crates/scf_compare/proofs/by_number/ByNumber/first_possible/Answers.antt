use Rattle.scf_compare.proofs.Common.{◌<◌, length, refl, arith, call_of, AreNumbersOf}
use Rattle.scf_compare.proofs.Rules.{read_at}
use Rattle.scf_compare.proofs.Numbered.{from_number}
use Rattle.scf_compare.proofs.by_number.ByNumber.first_possible.Goals as goal

pub loop-first-preserved-in-Always : goal.loop-first-preserved-in-Always
loop-first-preserved-in-Always g c =
    let numbers = c.numbers-numbers.result.now in
    let rules = c.args.self.now.profile.rules in
    let own = c.index-numbers-middle.result in
    let middle = c.middle_of-middle.result in
    let are : AreNumbersOf numbers rules =
    rw c.numbers-numbers.ensures.numbers c.numbers-numbers.ensures.numbered.numbers in
    let inside : middle < length numbers = omega (arith, c.loop-first.invariant.inside, c.middle_of-middle.ensures.below) in
    record {
      inside = c.loop-first.invariant.inside;
      later = omega (arith, c.loop-first.invariant.later, c.loop-first.invariant.behind, c.middle_of-middle.ensures.from);
      behind = omega arith;
      told = λ words w allowed _.
          from_number numbers rules are (call_of words) middle own
          (read_at numbers numbers middle own refl inside c.index-numbers-middle.is)
          (c.tell_from.ensures.always c.in-Always.is words w allowed);
    }
