use Rattle.scf_machine.proofs.Chains as chains
use Rattle.scf_machine.proofs.laws.chain_of_part.Goals as goal

pub returns : goal.returns
returns c = record { chain = chains.chain_of_part; answer = chains.answer_of_part; between = chains.part_between }
