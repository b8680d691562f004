use Rattle.scf_facts.proofs.MaskLaws.{decides}
use Rattle.scf_facts.proofs.bits.Bits.beyond.Goals as goal

pub returns-clause-decides : goal.returns-clause-decides
returns-clause-decides c = λ some x.
    decides some x c.args.known.mask c.args.known.value c.args.self.mask c.args.self.value
