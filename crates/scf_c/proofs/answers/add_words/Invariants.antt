use Rattle.std.proofs.Common.{◌≡◌, ◌++◌}
use Rattle.scf_c.specs.Answers.{facts_to}
use Rattle.scf_c.proofs.answers.add_words.Given as goal

abbrev pub invariant-loop-index : goal.invariant-loop-index
invariant-loop-index l = l.facts.items ≡ l.fn.facts.items ++ facts_to l.index l.words
