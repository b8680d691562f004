use Rattle.scf_compare.proofs.Common.{arith, inl, refl}
use Rattle.scf_compare.proofs.Branches.{weaken_stage}
use Rattle.scf_compare.proofs.settle.split.Goals as goal

pub returns-in_ok-take_branch-in-None-difference_of : goal.returns-in_ok-take_branch-in-None-difference_of
returns-in_ok-take_branch-in-None-difference_of g c = λ before. record {
  explores = weaken_stage _ _ _ _ _ _ _ _ _ _ _ _ _ _
      (λ words at.
      let within =
      c.requires.frontier.within (g.F.WordFacts.level c.args.frontier.now.facts) (omega arith) words at.0 in
      inl (c.in-None-difference_of.ensures.related words within (c.in-None.ensures.have words at.0 at.1.1)))
      (c.in_ok-take_branch-in-None-difference_of.ensures.explores before c.args.from);
  unlimited = λ none. (none, refl);
  steps = refl;
}
