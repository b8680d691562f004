use Rattle.scf_tool.proofs.compilation.filter_of_each.Goals as goal

pub compile_by_counts-requires : goal.compile_by_counts-requires
compile_by_counts-requires c = rw c.as_slice.ensures.profiles c.as_slice.ensures.apart
