use Rattle.std.proofs.lemmas.Result.{IfOk-weaker}
use Rattle.std.specs.Option.{option_or}
use Rattle.std.specs.Prelude.{IsSome}
use Rattle.scf_compare.proofs.Common.{◌≡◌, IfSome, None, Option, Some, arith, common_steps, inl, inr, refl}
use Rattle.scf_compare.proofs.Branches.{weaken, weaken_stage}
use Rattle.scf_compare.proofs.Stages.{stepped_on}
use Rattle.scf_compare.proofs.explore.advance.Goals as goal

-- what is noted where nothing was noted before
module _ {A : Type 0} where
  is_noted : (before now : Option A) (here : A) → now ≡ option_or before (Some here) → IsSome now
  is_noted None now here is = rw is refl
  is_noted (Some first) now here is = rw is refl

  stays : (before now : Option A) (here : A) → now ≡ option_or before (Some here) → IsSome before → now ≡ before
  stays None now here is some = cc
  stays (Some first) now here is some = is

  of_either : (P : A → Type 0) (before now : Option A) (here : A) → now ≡ option_or before (Some here)
      → IfSome before P → P here → IfSome now P
  of_either P None now here is of_before of_here = rw is of_here
  of_either P (Some first) now here is of_before of_here = rw is of_before

pub returns-in-Next : goal.returns-in-Next
returns-in-Next g c = record {
  explores = stepped_on c.requires.frontier c.in-Next.ensures;
  index = c.requires.index;
  kept = λ some. refl;
  exact = λ masks few exact. refl;
}

pub returns-in_ok-next-in-Branch : goal.returns-in_ok-next-in-Branch
returns-in_ok-next-in-Branch g c = record {
  explores = weaken (λ words none. absurd none)
      (c.in_ok-next-in-Branch.ensures.goes c.args.known.now c.args.node c.in-Branch.ensures);
  index = c.requires.index;
  kept = λ some. refl;
  exact = λ masks few exact. refl;
}

pub returns-in-Related : goal.returns-in-Related
returns-in-Related g c = IfOk-weaker c.take_branch.result _ _ (λ stage after. record {
  explores = weaken_stage _ _ _ _ _ _ _ _ _ _ _ _ _ _
      (λ words at. inl (c.in-Related.ensures.judged words (at.0, c.in-Leaf.ensures.leads words at.0 at.1)))
      (after.explores c.args.known.now c.args.node);
  index = c.requires.index;
  kept = λ some. refl;
  exact = λ masks few exact. refl;
}) c.take_branch.ensures

pub returns-in-Fails : goal.returns-in-Fails
returns-in-Fails g c = record {
  explores = c.in-Fails.ensures.judged;
  index = c.requires.index;
  kept = λ some. refl;
  exact = λ masks few exact. refl;
}

pub returns-in-Open : goal.returns-in-Open
returns-in-Open g c = IfOk-weaker c.take_branch-in-Open.result _ _ (λ stage after. record {
  explores = weaken_stage _ _ _ _ _ _ _ _ _ _ _ _ _ _
      (λ words at. inr (is_noted _ _ _ c.or.ensures))
      (after.explores c.args.known.now c.args.node);
  index = of_either _ _ _ _ c.or.ensures c.requires.index c.open_end_of.ensures.open;
  kept = λ some. stays _ _ _ c.or.ensures some;
  exact = λ masks few exact. grind (arith, common_steps);
}) c.take_branch-in-Open.ensures
