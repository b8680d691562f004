use Rattle.scf_compare.proofs.Common.{inl, refl, common_steps, arith}
use Rattle.scf_compare.proofs.Branches.{weaken, weaken_stage}
use Rattle.scf_compare.proofs.Stages.{stepped_on}
use Rattle.scf_compare.proofs.settle.advance_again.Goals as goal

pub returns-in-Next : goal.returns-in-Next
returns-in-Next g c = grind (arith, common_steps, stepped_on)

pub returns-in_ok-next-in-Branch-Some-default-default : goal.returns-in_ok-next-in-Branch-Some-default-default
returns-in_ok-next-in-Branch-Some-default-default g c =
    let branch = c.in-Branch-Some-default-default in
    record {
      explores = weaken (λ words none. absurd none)
          (c.in_ok-next-in-Branch-Some-default-default.ensures.goes c.args.known.now c.args.node
          (rw (branch.is, branch.field-0-is) at c.step.ensures));
      unlimited = λ none. (none, refl);
      steps = refl;
    }

pub returns-in_ok-take_branch-in-Related : goal.returns-in_ok-take_branch-in-Related
returns-in_ok-take_branch-in-Related g c = record {
  explores = weaken_stage _ _ _ _ _ _ _ _ _ _ _ _ _ _
      (λ words at.
      inl (c.in-Related.ensures.judged words (at.0, c.in-Leaf.ensures.leads words at.0 at.1)))
      (c.in_ok-take_branch-in-Related.ensures.explores c.args.known.now c.args.node);
  unlimited = λ none. (none, refl);
  steps = refl;
}

pub returns-in-Branch : goal.returns-in-Branch
returns-in-Branch g c = c.split.ensures c.args.known.now

pub returns-in-Open : goal.returns-in-Open
returns-in-Open g c = c.split-in-Open.ensures c.args.known.now
