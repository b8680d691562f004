use Rattle.scf_compare.proofs.Common.{AreWordsIn, IsWords-words_of, arith, call_of-words_of, inl, inr, refl, words_of, common_steps}
use Rattle.scf_compare.proofs.Branches.{goes_on}
use Rattle.scf_compare.proofs.Stages.{ahead_later, exact_later}
use Rattle.scf_compare.proofs.regions.regions_of_pair.Goals as goal

pub loop-steps-init : goal.loop-steps-init
loop-steps-init g c = record {
  frontier = grind (arith, c.requires.scope);
  node = c.requires.node;
  words = λ words within. grind (arith, c.requires.scope words, c.requires.reached words within);
  whole = record {
    few = tt;
    asked = λ index branch stands before. absurd (search arith);
    branches = λ index branch stands before words allowed given. absurd (search arith);
    answered = λ index branch stands level below within words allowed. absurd (search arith);
    here = λ is words allowed. grind (arith, c.requires.scope words, c.requires.reached words);
  };
  regions = grind arith;
  few = grind arith;
  most = omega arith;
  size = grind arith;
  decided = λ masks few among plain. (refl, grind arith, grind (arith, c.requires.scope, c.requires.reached));
}

pub returns-in-AllSeen-clause-regions : goal.returns-in-AllSeen-clause-regions
returns-in-AllSeen-clause-regions g c =
    let after = c.in_ok-next.ensures in
    let seen = rw c.in-AllSeen.is at after.explores in
    let regions = rw c.in-AllSeen.is at after.regions in
    let passed = c.pass_on-passed.ensures in
    let counts = g.met.C.Comparison.counts c.args.comparison.now c.pass_on-passed.new.known c.pass_on-passed.new.node in
    record {
      covered = λ call is within.
          let words = words_of call in
          let in_scope : AreWordsIn (g.C.Comparison.compared c.args.comparison.now) words =
          (IsWords-words_of call is, rw (call_of-words_of call is) within) in
          elim (c.loop-steps.invariant.words words in_scope) [
            | inl before ↦ after.kept words before
            | inr ahead ↦ seen words (ahead_later _ _ _ _ _ _ _ passed.later words ahead)
          ];
      each = regions.0;
      disjoint = regions.1;
      counted = omega (arith, c.loop-steps.invariant.few, after.few);
      within_limit = omega (arith, passed.most);
      within_size = omega (arith, c.loop-steps.invariant.size, passed.size, counts, c.requires.size);
    }

pub returns-in-AllSeen-clause-decided : goal.returns-in-AllSeen-clause-decided
returns-in-AllSeen-clause-decided g c =
    grind (arith, common_steps, c.loop-steps.invariant.decided, c.in_ok-next.ensures.decided, exact_later)

pub loop-steps-preserved : goal.loop-steps-preserved
loop-steps-preserved g c =
    let after = c.in_ok-next.ensures in
    let over = rw c.in-At.is at after.explores in
    let regions = rw c.in-At.is at after.regions in
    let passed = c.pass_on-passed.ensures in
    record {
      frontier = over.frontier;
      node = over.node;
      words = λ words within. elim (c.loop-steps.invariant.words words within) [
        | inl before ↦ inl (after.kept words before)
        | inr ahead ↦ over.words words (ahead_later _ _ _ _ _ _ _ passed.later words ahead)
      ];
      whole = regions.1;
      regions = regions.0;
      few = omega (arith, c.loop-steps.invariant.few, after.few);
      most = omega (arith, passed.most);
      size = omega (arith, c.loop-steps.invariant.size, over.size, passed.size);
      decided = λ masks few among plain.
          let before = c.loop-steps.invariant.decided masks few among plain in
          let here = exact_later _ _ _ _ _ _ _ passed.later masks before.2 in
          let now = after.decided masks few here before.0 in (now.0, now.1 before.1, over.exact masks here);
    }

pub region_step-requires-clause-whole : goal.region_step-requires-clause-whole
region_step-requires-clause-whole g c = goes_on c.loop-steps.invariant.whole c.pass_on-passed.ensures.later.reached
