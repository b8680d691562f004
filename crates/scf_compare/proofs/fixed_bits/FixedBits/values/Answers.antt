use Rattle.std.proofs.lemmas.Grind.{same_number_lists}
use Rattle.scf_compare.proofs.Common.{arith, word_below, common_steps}
use Rattle.scf_compare.proofs.Bits.{fixed}
use Rattle.scf_compare.proofs.fixed_bits.FixedBits.values.Goals as goal

pub returns : goal.returns
returns c = grind (arith, common_steps, same_number_lists, fixed, word_below)
