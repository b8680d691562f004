use Rattle.scf_compare.proofs.Common.{◌-◌, ◌^◌, arith}
use Rattle.std.proofs.lemmas.Nat.{and-not, and_comm, and_le_l}
use Rattle.scf_compare.proofs.known_argument.last_lacking.Goals as goal

pub returns-then-half-bits-clause-lack : goal.returns-then-half-bits-clause-lack
returns-then-half-bits-clause-lack c = λ x from to has. omega (arith, c.if-half-bits.true, and_le_l x c.args.bits.mask)

pub returns-then-half-bits-2-clause-lack : goal.returns-then-half-bits-2-clause-lack
returns-then-half-bits-2-clause-lack c = λ x from to has.
    let mask = c.args.bits.mask in
    let outside = and-not 32 mask x (omega arith) (omega arith) in
    omega (arith, c.if-half-bits-2.true, has, and_comm mask x, outside, and_le_l (2 ^ 32 - 1 - mask) x)
