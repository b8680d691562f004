use Rattle.scf_compile.proofs.Common.{rules, refl, begins}
use Rattle.scf_compile.proofs.Laying.{goes_on_last}
use Rattle.scf_compile.proofs.ranges.add_range.Goals as goal
use Rattle.scf_compile.proofs.ranges.add_range.Goals.{in-Some, in-None}

pub returns-in_ok-push : goal.returns-in_ok-push
returns-in_ok-push c =
    begins (record { first = c.args.first; rules = c.args.rules }) refl refl c.in_ok-push.ensures.items

pub returns-else-not-continues : goal.returns-else-not-continues
returns-else-not-continues c = elim c.match-last.branch [
  | in-Some w ↦ goes_on_last c.args.ranges.now.items c.args.first w.in-Some.last.now c.args.rules.now (search rules)
      (search rules) (w.are_alike-continues.ensures (search rules))
  | in-None w ↦ absurd (cc)
]
