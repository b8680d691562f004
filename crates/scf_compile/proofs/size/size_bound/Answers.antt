use Rattle.scf_compile.proofs.Common.{arith}
use Rattle.scf_compile.proofs.Sizes.{size_small}
use Rattle.scf_compile.proofs.size.size_bound.Goals as goal

pub bound_of_rules-requires : goal.bound_of_rules-requires
bound_of_rules-requires c =
    let small = size_small _ c.rules.ensures.profile in rw c.rules.ensures.rules (omega (arith, small))

pub overflow_add-rules : goal.overflow_add-rules
overflow_add-rules c =
    let small = size_small _ c.rules.ensures.profile in
    let sum = rw c.rules.ensures.rules at c.bound_of_rules.ensures in
    omega (arith, small, sum, c.stub_count.ensures)
