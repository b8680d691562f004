use Rattle.scf_machine.proofs.Common.{◌∷◌, ◌+◌, ◌∙◌, ap, arith, length, refl}
use Rattle.scf_machine.proofs.Loop.{at_inside, at_next, run_of, pc_added}
use Rattle.scf_machine.proofs.machine.trace.Goals as goal

pub returns-in-Some : goal.returns-in-Some
returns-in-Some c =
    let so_far = c.loop-indices.invariant in
    let follows = rw (c.words-words.ensures, c.in-Some.is) at c.advance-answered.ensures.follows in
    let answers = follows so_far.earlier so_far.at in
    let added = pc_added _ so_far.at.state so_far.earlier _ _ so_far.at.stand so_far.in_order
    c.in_ok-push.ensures.items in
    let done = run_of _ _ _ _ _ _ c.advance-answered.ensures.filter.valid so_far.at answers
    (added.1 ∙ ap (λ k. k + 1) so_far.count) in
    record {
      path = record {
        run = (
          length so_far.earlier + 1,
          record {
            last = so_far.at.state;
            earlier = so_far.earlier;
            chain = so_far.at.chain;
            answers = answers;
            count = refl;
          },
        );
        in_order = added.0;
      };
      run = done.0;
      bound = done.1;
    }

pub loop-indices-preserved : goal.loop-indices-preserved
loop-indices-preserved c =
    let so_far = c.loop-indices.invariant in
    let follows = rw (c.words-words.ensures, c.in_default.is) at c.advance-answered.ensures.follows in
    let next = at_next _ _ _ _ _ so_far.at (follows so_far.earlier so_far.at) in
    let added = pc_added _ so_far.at.state so_far.earlier _ _ so_far.at.stand so_far.in_order
    c.in_ok-push.ensures.items in
    record {
      earlier = so_far.at.state ∷ so_far.earlier;
      at = next.0;
      count = omega (arith, so_far.count, added.1);
      in_order = added.0;
    }

pub loop-indices-smaller : goal.loop-indices-smaller
loop-indices-smaller c =
    let so_far = c.loop-indices.invariant in
    let follows = rw (c.words-words.ensures, c.in_default.is) at c.advance-answered.ensures.follows in
    let next = at_next _ _ _ _ _ so_far.at (follows so_far.earlier so_far.at) in
    omega (arith, next.1, (at_inside _ _ _ _ c.advance-answered.ensures.filter.valid so_far.at).0)
