use Rattle.scf_compare.proofs.Common.{arith, common_steps}
use Rattle.std.proofs.lemmas.List.Elements.{All-set}
use Rattle.scf_compare.proofs.registers.KnownRegisters.store.Goals as goal

pub returns-clause-values : goal.returns-clause-values
returns-clause-values c =
    grind (arith, common_steps, All-set)
