use Rattle.scf_compare.proofs.Common.{arith}
use Rattle.scf_compare.proofs.pair.Pair.ask_right.Goals as goal

pub returns-in-Next : goal.returns-in-Next
returns-in-Next g c = λ left ahead over.
    let step = rw c.in-Next.is at c.follow.ensures in
    record {
      proper = (c.requires.leaf, step.proper);
      leads = λ words allowed reached. (reached.0, reached.1, step.leads words (reached.0, allowed) reached.2);
      costs = step.costs;
      plain = λ masks plain. (plain.0, step.plain masks plain.1);
    }

pub returns-in-Branch : goal.returns-in-Branch
returns-in-Branch g c = λ left ahead over.
    let step = rw c.in-Branch.is at c.follow.ensures in
    record {
      proper = (step.proper.0, (c.requires.leaf, step.proper.1), (c.requires.leaf, step.proper.2));
      leads = λ words allowed reached. grind (arith, step.leads words (reached.0, allowed) reached.2);
      costs = step.costs;
      plain = λ masks plain.
          let behind = step.plain masks plain.1 in (behind.0, (plain.0, behind.1), (plain.0, behind.2));
    }

pub returns-in-Leaf : goal.returns-in-Leaf
returns-in-Leaf g c = λ left ahead over.
    let step = rw c.in-Leaf.is at c.follow.ensures in
    record {
      proper = (c.requires.leaf, step.proper);
      leads = λ words allowed reached. (reached.1, step.leads words (reached.0, allowed) reached.2);
      costs = step.costs;
      plain = λ masks plain. (plain.0, step.plain masks plain.1);
    }
