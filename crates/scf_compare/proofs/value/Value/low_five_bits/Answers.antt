use Rattle.scf_compare.proofs.Common.{◌≡◌, ◌%◌, and_mask, bit_and, refl}
use Rattle.scf_compare.proofs.value.Value.low_five_bits.Goals as goal

pub returns-clause-stands : goal.returns-clause-stands
returns-clause-stands g c = λ words a allowed stands.
    let low : bit_and a 31 ≡ a % 32 = and_mask a 5 in
    rw (← low) (c.computed.ensures.stands words a 31 allowed stands refl)
