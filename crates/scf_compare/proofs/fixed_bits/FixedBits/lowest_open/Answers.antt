use Rattle.scf_compare.proofs.Common.{arith}
use Rattle.scf_compare.proofs.BitSets.{lowest_lacking}
use Rattle.scf_compare.specs.Splits.{bits_at}
use Rattle.scf_compare.proofs.fixed_bits.FixedBits.lowest_open.Goals as goal

pub returns-clause-open : goal.returns-clause-open
returns-clause-open c =
    let (one, unfixed) = lowest_lacking (bits_at c.args.self.now.words c.args.word).mask (omega arith) in
    rw c.trailing_ones-mask.ensures (record { word = c.requires; one = one; unfixed = unfixed })
