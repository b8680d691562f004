use Rattle.scf_compare.proofs.Common.{false, refl, true}
use Rattle.scf_compare.proofs.Branches.{known_test, opened, opened_whole}
use Rattle.scf_compare.proofs.frontier.ask.Goals as goal

pub returns-in-Always : goal.returns-in-Always
returns-in-Always g c =
    rw c.in-Some.is (known_test g.F.WordFacts _ _ _ _ _ _ _ true c.requires.frontier
    (c.in-Always.ensures.law_always refl))

pub returns-in-Never : goal.returns-in-Never
returns-in-Never g c =
    rw c.in-Some.is (known_test g.F.WordFacts _ _ _ _ _ _ _ false c.requires.frontier
    (c.in-Never.ensures.law_never refl))

pub returns : goal.returns
returns g c =
    let compared = g.C.Comparison.compared c.args.comparison.now in
    let tree = g.C.Comparison.tree c.args.comparison.now in
    let opens = c.in_ok-open_branch.ensures in
    record {
      goes = λ before from.
          opened g.F.WordFacts compared tree c.args.frontier.now c.open_branch.new.frontier c.args.known.now c.args.atom
          c.args.if_true c.args.if_false c.requires.frontier opens (tree before) from;
      whole = λ before from.
          opened_whole g.F.WordFacts compared tree c.args.frontier.now c.open_branch.new.frontier c.args.known.now
          c.args.atom c.args.if_true c.args.if_false c.requires.frontier opens (tree before) from;
    }
