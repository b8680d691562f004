use Rattle.scf_compare.proofs.Common.{◌/◌, ◌^◌, arith, shr_mono}
use Rattle.scf_compare.proofs.KnownBits.{right_known}
use Rattle.scf_compare.proofs.known_bits.right_bits.Goals as goal

pub returns-clause-stands : goal.returns-clause-stands
returns-clause-stands c = λ x fits has.
    let shifted = right_known x _ _ c.args.count has in
    let high = c.between.ensures.common (x / 2 ^ c.args.count) (omega arith) (shr_mono c.args.count (omega arith)) in
    c.union.ensures.both _ (cc shifted) high
