use Rattle.scf_compare.proofs.Common.{◌≡◌, ◌-◌, Frontier, length, arith, slice_get, Some}
use Rattle.scf_compare.proofs.Branches.{after_undo, taken, taken_whole}
use Rattle.scf_compare.proofs.Rules.{without_last}
use Rattle.scf_compare.specs.internal.Frontier.{HasTaken}
use Rattle.scf_compare.proofs.frontier.take_branch.Goals as goal

pub learn_answer-requires : goal.learn_answer-requires
learn_answer-requires g c =
    let items = c.args.frontier.now.branches.items in
    let last : slice_get items (length items - 1) ≡ Some c.in-Some.branch.now =
    grind (arith, c.in-Some.ensures.item, c.in-Some.ensures.value, c.deref.ensures.value) in
    (c.requires.branches (length items - 1) c.in-Some.branch.now last).asks

pub returns : goal.returns
returns g c =
    let compared = g.C.Comparison.compared c.args.comparison.now in
    let tree = g.C.Comparison.tree c.args.comparison.now in
    let items = c.args.frontier.now.branches.items in
    let branch = c.in-Some.branch.now in
    let last : slice_get items (length items - 1) ≡ Some branch =
    grind (arith, c.in-Some.ensures.item, c.in-Some.ensures.value, c.deref.ensures.value) in
    let after : Frontier _ _ _ = record { facts = c.learn_answer.new.facts; branches = c.truncate.new.self } in
    let closed = c.undo.ensures.closed in
    let undone = c.undo.ensures.law_undo in
    let learned = c.in_ok-learn_answer.ensures in
    let known =
    after_undo g.F.WordFacts branch.asked c.args.frontier.now.facts _ c.learn_answer.new.facts closed
    (λ index below. undone index (omega (arith, closed))) learned.marks learned.learned learned.among in
    let is : HasTaken g.F.WordFacts c.args.frontier.now after branch = record {
      branches = grind (arith, without_last items branch last, c.truncate.ensures.items, c.len.ensures, c.deref.ensures.len, c.deref.ensures.value);
      marks = omega (arith, closed, learned.marks);
      levels = λ index below. grind (arith, closed, undone index, learned.at_marks index);
      known = known.0;
      among = known.1;
    } in
    record {
      explores = λ before from.
          taken g.F.WordFacts compared tree c.args.frontier.now after branch c.requires is
          (tree before) from (g.met.C.Comparison.counts c.args.comparison.now before from);
      whole = λ before from.
          taken_whole g.F.WordFacts compared tree c.args.frontier.now after branch c.requires is
          (tree before) from;
      nothing = tt;
    }
