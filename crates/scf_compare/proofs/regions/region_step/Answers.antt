use Rattle.scf_compare.proofs.Common.{◌≡◌, ◌≤◌, ◌+◌, Bool, ℕ, List, IsTrue, None, arith, common_steps, length}
use Rattle.scf_compare.specs.declared.comparison.PairLeaf.{PairLeaf}
use Rattle.scf_compare.specs.declared.region.Region.{Region}
use Rattle.scf_compare.specs.internal.Regions.{IsAdded}
use Rattle.scf_compare.proofs.Branches.{goes_on, weaken, weaken_stage}
use Rattle.scf_compare.proofs.Stages.{stepped_on}
use Rattle.scf_compare.proofs.AddedRegions.{after_leaf, no_more_ahead, now_covered, still_covered}
use Rattle.scf_compare.proofs.regions.region_step.Goals as goal

grown : {allowed : List ℕ → Type 0} {leaf : PairLeaf} {is_whole : Bool} {old new : List Region}
    → IsAdded allowed leaf is_whole old new → length new ≤ length old + 1
grown added = grind (arith, common_steps, added)

pub returns-in-Next : goal.returns-in-Next
returns-in-Next g c = record {
  explores = stepped_on c.requires.frontier c.in-Next.ensures;
  kept = λ words covered. covered;
  regions = (c.requires.regions, goes_on c.requires.whole c.in-Next.ensures.leads);
  decided = λ masks few exact none. (none, λ all. all);
  few = omega arith;
  nothing = tt;
}

pub returns-in_ok-next-in-Branch : goal.returns-in_ok-next-in-Branch
returns-in_ok-next-in-Branch g c =
    let tree = g.C.Comparison.tree c.args.comparison.now in
    let asked = c.in_ok-next-in-Branch.ensures in
    let stays =
    asked.whole c.args.known.now c.args.node c.args.first_open.now c.in-Branch.ensures c.requires.whole in
    let counted : c.len.result ≡ length c.args.frontier.now.branches.items = grind (arith, common_steps) in
    record {
      explores = weaken (λ words none. absurd none) (asked.goes c.args.known.now c.args.node c.in-Branch.ensures);
      kept = λ words covered. covered;
      regions = rw (c.note_branch.ensures, counted) (
        no_more_ahead g.F.WordFacts (g.C.Comparison.compared c.args.comparison.now) tree c.args.frontier.now
            c.args.first_open.now c.args.regions.now.items c.requires.regions c.ask.new.frontier _ stays.1,
        stays.0,
      );
      decided = λ masks few exact none. grind (arith, common_steps, c.in-Branch.ensures.plain masks exact.plain);
      few = omega arith;
      nothing = tt;
    }

pub returns-in_ok-stage-in-Leaf : goal.returns-in_ok-stage-in-Leaf
returns-in_ok-stage-in-Leaf g c =
    let compared = g.C.Comparison.compared c.args.comparison.now in
    let tree = g.C.Comparison.tree c.args.comparison.now in
    let whole = c.requires.whole in
    let leads = c.in-Leaf.ensures.leads in
    let added = c.in_ok-add_region-in-Leaf.ensures.added in
    let taken = c.in_ok-stage-in-Leaf.ensures in
    let counted : c.len-in-Leaf.result ≡ length c.take_branch.new.frontier.branches.items = grind (arith, common_steps) in
    let decided : IsTrue c.is_none.result → c.args.first_open.now ≡ None = grind (arith, common_steps) in
    record {
      explores = weaken_stage _ _ _ _ _ _ _ _ _ _ _ _ _ _
          (λ words at. now_covered compared.left compared.right _ _ _ _ _ added words at.0 (leads words at.0 at.1))
          (taken.explores c.args.known.now c.args.node);
      kept = still_covered compared.left compared.right _ _ _ _ _ added;
      regions = after_leaf g.F.WordFacts compared tree c.args.frontier.now
          c.args.first_open.now c.args.regions.now.items c.requires.regions c.in-Leaf.leaf c.is_none.result
          c.in-Leaf.ensures.proper
          (λ words allowed.
          c.requires.frontier.within (g.F.WordFacts.level c.args.frontier.now.facts) (omega arith) words allowed)
          decided (λ is words allowed. leads words allowed (whole.here (decided is) words allowed))
          c.take_branch.new.frontier c.note_taken.new.first_open c.add_region.new.regions.items
          (tree c.take_branch.new.known) c.in_ok-stage-in-Leaf.stage added (rw counted at c.note_taken.ensures)
          (taken.whole c.args.known.now c.args.node c.args.first_open.now whole) taken.nothing;
      decided = λ masks few exact none. grind (
        arith,
        common_steps,
        c.in_ok-add_region-in-Leaf.ensures.decided masks few,
        c.in-Leaf.ensures.plain masks exact.plain,
      );
      few = grown added;
      nothing = taken.nothing;
    }
