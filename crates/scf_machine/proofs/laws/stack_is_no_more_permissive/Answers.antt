use Rattle.scf_machine.proofs.Stacks as stacks
use Rattle.scf_machine.proofs.laws.stack_is_no_more_permissive.Goals as goal

pub returns : goal.returns
returns c = stacks.stack_is_no_more_permissive
