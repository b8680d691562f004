use Rattle.scf_compare.proofs.Common.{arith, Bits64}
use Rattle.scf_compare.proofs.Halves.{half_there}
use Rattle.scf_compare.specs.declared.question.ConditionPart.TheVariants.{High, Low}
use Rattle.std.proofs.Common.{refl}
use Rattle.scf_compare.proofs.known_argument.KnownArgument.of.Goals as goal
use Rattle.scf_compare.proofs.known_argument.KnownArgument.of.Goals.{in-Bits32, in-Bits64}

pub returns-clause-known : goal.returns-clause-known
returns-clause-known g c = λ words w allowed.
    let index = c.args.index in
    let low = half_there words index w c.args.bits Low (grind arith) in
    record {
      low = grind (arith, low, c.known_bits.ensures.known words allowed);
      high = elim c.match-bits.branch [
        | in-Bits32 w32 ↦ grind (arith, w32.of-high.ensures.mask, w32.of-high.ensures.value)
        | in-Bits64 w64 ↦
            let high = half_there words index w Bits64 High refl in
            grind (arith, high, w64.known_bits-high.ensures.known words allowed)
      ];
    }
