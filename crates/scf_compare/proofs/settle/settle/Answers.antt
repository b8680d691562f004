use Rattle.scf_compare.proofs.Common.{◌≡◌, ◌∙◌, [], ℕ, List, None, Some, arith, inl, inr, refl, slice_get, common_steps}
use Rattle.scf_compare.proofs.Stages.{all_related}
use Rattle.scf_compare.proofs.settle.settle.Goals as goal

-- no branch stands in an empty list
none_stands : {B : Type 0} (branches : List B) (index : ℕ) (branch : B) → branches ≡ []
    → slice_get branches index ≡ Some branch → ⊥
none_stands branches index branch none stands = let past = rw none at stands in cc

pub loop-settling-init : goal.loop-settling-init
loop-settling-init g c =
    let facts = c.new-frontier.ensures.facts in
    let begins = c.new-frontier.ensures.branches in
    record {
      frontier = record {
        marks = rw (begins, facts) c.requires.unmarked;
        branches = λ index branch stands. absurd (none_stands _ index branch begins stands);
        within = λ level few words allowed. grind (arith, c.requires.scope words);
      };
      node = c.requires.root.node;
      words = λ words within.
          inr (inr (
            rw (facts, c.requires.unmarked) ((c.requires.scope words).1 within),
            (c.requires.root.reached words within, c.none.ensures words),
          ));
      unlimited = λ none. none;
      leaves = omega arith;
    }

pub loop-settling-preserved : goal.loop-settling-preserved
loop-settling-preserved g c =
    let after = c.in_ok-next.ensures in
    let on = rw (c.in-Some-At.is, c.in-Some-At.field-0-is) at after.explores in
    let was = c.loop-settling.invariant in
    let taken = c.loop-settling-test.ensures in
    record {
      frontier = on.frontier;
      node = on.node;
      words = λ words within.
          elim (was.words words within) [
            | inl seen ↦ inl seen
            | inr ahead ↦ on.words words ahead
          ];
      unlimited = λ none. (after.unlimited (taken.splits ∙ was.unlimited none)).0;
      leaves = grind (arith, after.steps, taken.steps, was.leaves);
    }

pub returns-in-Some-AllSeen : goal.returns-in-Some-AllSeen
returns-in-Some-AllSeen g c =
    let after = c.in_ok-next.ensures in
    let seen = rw (c.in-Some-AllSeen.is, c.in-Some-AllSeen.field-0-is) at after.explores in
    let was = c.loop-settling.invariant in
    record {
      settled = inl (
        refl,
        all_related (g.C.Comparison.compared c.args.comparison.now) None refl
            (λ words within. elim (was.words words within) [
              | inl before ↦ before
              | inr ahead ↦ seen words ahead
            ]),
      );
      unlimited = λ none. refl;
      leaves = grind (arith, after.steps, c.loop-settling-test.ensures.steps, was.leaves);
    }

pub returns-in-Some-Found : goal.returns-in-Some-Found
returns-in-Some-Found g c =
    grind (arith, common_steps)

pub returns-in-None : goal.returns-in-None
returns-in-None g c =
    grind (arith, common_steps)

pub returns : goal.returns
returns g c =
    grind (arith, common_steps)
