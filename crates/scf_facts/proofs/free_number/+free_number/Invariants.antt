use Rattle.scf_facts.proofs.free_number.+free_number.Given as goal

abbrev pub decreases-free_number : goal.decreases-free_number
decreases-free_number l = l.tries.now
