use Rattle.std.proofs.lemmas.Nat.{ones_le_self}
use Rattle.scf_facts.specs.Masks.{AreFew}
use Rattle.scf_compare.proofs.Common.{arith}
use Rattle.scf_compare.proofs.MaskedSides.{plain_side}
use Rattle.scf_compare.specs.declared.side.Side.TheVariants.{Stack, Profiles}
use Rattle.scf_compare.proofs.regions.regions_of.Goals as goal

none_few : AreFew 0
none_few = omega (arith, ones_le_self 0)

pub returns-in-Stack-clause-decided : goal.returns-in-Stack-clause-decided
returns-in-Stack-clause-decided g c = rw c.in-Stack.is (λ exact left right.
    c.regions_beside.ensures.decided exact 0 none_few
    (plain_side 0 (Stack c.in-Stack.filters) left) (plain_side 0 c.args.right.now right))

pub returns-in-Profiles-clause-decided : goal.returns-in-Profiles-clause-decided
returns-in-Profiles-clause-decided g c = rw c.in-Profiles.is (λ exact left right.
    c.regions_beside-in-Profiles.ensures.decided exact 0 none_few
    (plain_side 0 (Profiles c.in-Profiles.profiles) left) (plain_side 0 c.args.right.now right))
