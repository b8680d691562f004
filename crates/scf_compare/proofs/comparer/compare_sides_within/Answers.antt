use Rattle.scf_compare.proofs.Common.{arith, common_steps}
use Rattle.std.proofs.lemmas.Nat.{ones_le_self}
use Rattle.scf_compare.proofs.MaskedSides.{plain_side}
use Rattle.scf_compare.proofs.comparer.compare_sides_within.Goals as goal

-- plain sides have no masks
pub returns-clause-decided : goal.returns-clause-decided
returns-clause-decided g c =
    grind (arith, common_steps, c.in_ok-finding.ensures.explored.decided, ones_le_self, plain_side)
