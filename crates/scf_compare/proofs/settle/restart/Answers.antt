use Rattle.scf_compare.proofs.Common.{arith, refl}
use Rattle.scf_compare.proofs.Branches.{opened, weaken}
use Rattle.scf_compare.proofs.Weights.{splits_in_two}
use Rattle.scf_compare.specs.internal.Settling.{settling_trees}
use Rattle.scf_compare.proofs.settle.restart.Goals as goal

pub returns : goal.returns
returns g c = λ before.
    let walk = c.args.settling.now in
    let compared = g.C.Comparison.compared walk.comparison.now in
    let tree = g.C.Comparison.tree walk.comparison.now in
    let opens = rw c.is_set.ensures at c.in_ok-open_branch.ensures in
    let step = splits_in_two compared tree walk.start walk.root
    (g.F.WordFacts.allows c.args.frontier.now.facts (g.F.WordFacts.level c.args.frontier.now.facts)) before c.args.from
    c.args.fixed.words c.args.bit.word c.args.bit.mask (record { node = walk.root; fixed = c.fix.new.self })
    (record { node = walk.root; fixed = c.fix-2.new.self })
    (c.requires.frontier.within (g.F.WordFacts.level c.args.frontier.now.facts) (omega (arith, c.requires.frontier.marks)))
    c.requires.root c.requires.have c.requires.less
    (g.met.C.Comparison.counts walk.comparison.now before c.args.from.node) c.requires.open.word
    (record { node = refl; have = c.fix.ensures.have; fewer = c.fix.ensures.less })
    (record { node = refl; have = c.fix-2.ensures.have; fewer = c.fix-2.ensures.less }) in
    record {
      explores = weaken (λ words none. absurd none) (opened g.F.WordFacts compared
          (settling_trees tree walk.start walk.root) c.args.frontier.now c.open_branch.new.frontier walk.start _ _ _
          c.requires.frontier opens _ c.args.from step);
      unlimited = λ none. grind (arith, c.take_split.ensures.splits, none);
      steps = c.take_split.ensures.steps;
    }
