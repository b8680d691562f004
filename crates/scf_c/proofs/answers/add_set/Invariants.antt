use Rattle.std.proofs.Common.{◌≡◌, ◌++◌, map, take}
use Rattle.scf_c.specs.Answers.{bits_fact}
use Rattle.scf_c.proofs.answers.add_set.Given as goal

abbrev pub invariant-loop-bits : goal.invariant-loop-bits
invariant-loop-bits l =
    l.facts.items ≡ l.initial.facts.items ++ map (bits_fact 3 l.index) (take l.bits-index l.word.refuted)
