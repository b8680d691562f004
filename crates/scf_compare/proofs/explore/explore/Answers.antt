use Rattle.scf_compare.proofs.Common.{◌≡◌, ◌+◌, ◌∙◌, arith, inl, inr, None, common_steps}
use Rattle.scf_compare.proofs.Stages.{ahead_later, all_related, exact_later, of_all, of_found}
use Rattle.scf_compare.proofs.explore.explore.Goals as goal

pub loop-steps-init : goal.loop-steps-init
loop-steps-init g c = record {
  frontier = grind (arith, c.requires.scope);
  node = c.requires.node;
  index = tt;
  words = λ words within. grind (arith, c.requires.scope words, c.requires.reached words within);
  size = grind arith;
  most = grind arith;
  exact = λ masks few among plain. grind (arith, c.requires.scope, c.requires.reached);
}

pub returns-in-AllSeen : goal.returns-in-AllSeen
returns-in-AllSeen g c =
    let after = c.in_ok-next.ensures in
    let seen = rw c.in-AllSeen.is at after.explores in
    let compared = g.C.Comparison.compared c.args.comparison.now in
    let so_far = c.loop-steps.invariant in
    let passed = c.pass_on-passed.ensures in
    let counts = g.met.C.Comparison.counts c.args.comparison.now c.pass_on-passed.new.known c.pass_on-passed.new.node in
    let all = λ (none : c.advance.new.first_undecided ≡ None).
    all_related compared c.advance.new.first_undecided none
    (λ words within. elim (so_far.words words within) [
      | inl was ↦ grind (arith, was, after.kept)
      | inr ahead ↦ seen words (ahead_later _ _ _ _ _ _ _ passed.later words ahead)
    ]) in
    rw c.seen_in.ensures (of_all compared _ (c.loop-steps.steps + (c.pass_on-passed.result + 1)) c.args.limit _ c.advance.new.first_undecided
    after.index all (λ masks given. let before = so_far.exact masks given.0 given.1 given.2 in
    after.exact masks given.0 (exact_later _ _ _ _ _ _ _ passed.later masks before.1) ∙ before.0)
    (omega arith) (omega (arith, passed.most)) (omega (arith, so_far.size, passed.size, counts)))

pub returns-in-Found : goal.returns-in-Found
returns-in-Found g c =
    grind (arith, common_steps, g.met.C.Comparison.counts, of_found)

pub loop-steps-preserved : goal.loop-steps-preserved
loop-steps-preserved g c =
    let after = c.in_ok-next.ensures in
    let over = rw c.in-At.is at after.explores in
    let so_far = c.loop-steps.invariant in
    let passed = c.pass_on-passed.ensures in
    record {
      frontier = over.frontier;
      node = over.node;
      index = after.index;
      words = λ words within.
          elim (so_far.words words within) [
            | inl seen ↦ grind (arith, seen, after.kept)
            | inr ahead ↦ over.words words (ahead_later _ _ _ _ _ _ _ passed.later words ahead)
          ];
      size = omega (arith, over.size, so_far.size, passed.size);
      most = omega (arith, passed.most);
      exact = λ masks few among plain.
          let before = so_far.exact masks few among plain in
          let here = exact_later _ _ _ _ _ _ _ passed.later masks before.1 in
          (after.exact masks few here ∙ before.0, over.exact masks here);
    }
