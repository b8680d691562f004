use Rattle.scf_compare.proofs.Common.{arith, take_all}
use Rattle.scf_compare.proofs.Numbered.{numbers_spread}
use Rattle.scf_compare.proofs.tree_sizes.spread_of.Goals as goal

pub returns : goal.returns
returns c =
    let items = c.numbers-number-items in
    grind (arith, take_all, numbers_spread items.result.now c.args.profile.now items.ensures.numbers)
