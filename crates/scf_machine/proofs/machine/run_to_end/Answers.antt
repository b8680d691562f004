use Rattle.scf_machine.proofs.Common.{◌∷◌, ◌+◌, ap, arith, length, refl}
use Rattle.scf_machine.proofs.Loop.{at_inside, at_next, run_of}
use Rattle.scf_machine.proofs.Runs.{runs_safely}
use Rattle.scf_machine.proofs.machine.run_to_end.Goals as goal

pub overflow_add-steps : goal.overflow_add-steps
overflow_add-steps c =
    let so_far = c.loop-answer.invariant in
    let inside = at_inside _ _ _ _ c.advance-answered.ensures.filter.valid so_far.at in omega (arith, so_far.count)

pub returns-in-Some : goal.returns-in-Some
returns-in-Some c =
    let so_far = c.loop-answer.invariant in
    let filter = c.advance-answered.ensures.filter in
    let follows = rw (c.words-words.ensures, c.in-Some.is) at c.advance-answered.ensures.follows in
    let answers = follows so_far.earlier so_far.at in
    let done = run_of _ _ _ _ _ _ filter.valid so_far.at answers (ap (λ k. k + 1) so_far.count) in
    record {
      run = done.0;
      end = (
        (
          length so_far.earlier + 1,
          record {
            last = so_far.at.state;
            earlier = so_far.earlier;
            chain = so_far.at.chain;
            answers = answers;
            count = refl;
          },
        ),
        so_far.at.stand.pc,
      );
      bound = done.1;
      safe = runs_safely _ _ filter.valid filter.stored;
    }

pub loop-answer-preserved : goal.loop-answer-preserved
loop-answer-preserved c =
    let so_far = c.loop-answer.invariant in
    let follows = rw (c.words-words.ensures, c.in_default.is) at c.advance-answered.ensures.follows in
    let next = at_next _ _ _ _ _ so_far.at (follows so_far.earlier so_far.at) in
    record { earlier = so_far.at.state ∷ so_far.earlier; at = next.0; count = omega (arith, so_far.count) }

pub loop-answer-smaller : goal.loop-answer-smaller
loop-answer-smaller c =
    let so_far = c.loop-answer.invariant in
    let follows = rw (c.words-words.ensures, c.in_default.is) at c.advance-answered.ensures.follows in
    let next = at_next _ _ _ _ _ so_far.at (follows so_far.earlier so_far.at) in
    omega (arith, next.1, (at_inside _ _ _ _ c.advance-answered.ensures.filter.valid so_far.at).0)
