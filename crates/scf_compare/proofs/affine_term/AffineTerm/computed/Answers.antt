use Rattle.scf_compare.proofs.Common.{one_shl}
use Rattle.scf_compare.proofs.affine_term.AffineTerm.computed.Goals as goal

pub returns-in-Add-clause-number : goal.returns-in-Add-clause-number
returns-in-Add-clause-number c = rw c.in-Add.is c.add.ensures.number

pub returns-in-Sub-clause-number : goal.returns-in-Sub-clause-number
returns-in-Sub-clause-number c = rw c.in-Sub.is c.sub.ensures.number

pub returns-in-Div-clause-number : goal.returns-in-Div-clause-number
returns-in-Div-clause-number c = rw c.in-Div.is c.div.ensures.number

pub returns-in-Mul-clause-number : goal.returns-in-Mul-clause-number
returns-in-Mul-clause-number c = rw c.in-Mul.is c.mul.ensures.number

pub returns-in-And-clause-number : goal.returns-in-And-clause-number
returns-in-And-clause-number c = rw c.in-And.is c.masked.ensures.number

pub returns-in-Or-clause-number : goal.returns-in-Or-clause-number
returns-in-Or-clause-number c = rw c.in-Or.is c.or.ensures.number

pub returns-in-Xor-clause-number : goal.returns-in-Xor-clause-number
returns-in-Xor-clause-number c = rw c.in-Xor.is c.xor.ensures.number

pub returns-in-Rsh-clause-number : goal.returns-in-Rsh-clause-number
returns-in-Rsh-clause-number c =
    rw c.in-Rsh.is (rw (one_shl c.args.v 32 c.if-v-lt32.true) at c.div-in-Rsh.ensures.number)

pub returns-in-Lsh-clause-number : goal.returns-in-Lsh-clause-number
returns-in-Lsh-clause-number c =
    rw c.in-Lsh.is (rw (one_shl c.args.v 32 c.if-v-lt32-2.true) at c.mul-in-Lsh.ensures.number)
