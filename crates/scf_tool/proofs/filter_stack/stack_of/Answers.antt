use Rattle.scf_tool.proofs.Common.{Some, rest_of}
use Rattle.scf_tool.proofs.StackLemmas.{refused_well, told_of_parts}
use Rattle.scf_tool.proofs.filter_stack.stack_of.Goals as goal

pub returns-clause-stack : goal.returns-clause-stack
returns-clause-stack c = rw (told_of_parts c.args.filters.now) at c.read_stack.ensures.stack

pub returns-clause-fault : goal.returns-clause-fault
returns-clause-fault c = rw (told_of_parts c.args.filters.now) at
    (refused_well (λ reader. Some (rest_of reader)) c.args.filters.now _ c.read_stack.result
    c.read_stack.ensures.refused c.read_stack.ensures.stopped)
