use Rattle.scf_profile.proofs.Common.{◌≡◌, ◌⊎◌, Some, All, Any, subst, sym, All-more, Rule, EntriesConflict, IsClashBounded, IsClashOf}
use Rattle.scf_profile.proofs.LeastClash.{one_more, still_bounded}
use Rattle.scf_profile.proofs.conflict.least_among.Goals as goal
use Rattle.std.proofs.Common.{inr}

pub loop-later-preserved : goal.loop-later-preserved
loop-later-preserved c =
    let rules = c.args.rules.now in
    let i = c.loop-later.later-index in
    let later = c.later-item.result in
    let least = c.loop-later.least in
    let more = c.least_with-least.result in
    let keeps = c.least_with-least.ensures.keeps in
    record {
      one =
          one_more (λ d. (c.args.clash ≡ Some d) ⊎ EntriesConflict c.args.architecture rules d.first d.second d.number)
          (λ d. Any (λ r. IsClashOf c.args.architecture r later d) rules) least more
          (λ d (k, r, lt, at, clash).
          inr (k, r, lt, at, (i, later, c.loop-later-test.true, sym c.later-item.is, clash)))
          c.loop-later.invariant.one c.least_with-least.ensures.one;
      bounds =
          All-more (λ l. All (IsClashBounded c.args.architecture more l) rules) rules i later c.loop-later-test.true
          (still_bounded c.args.architecture least more keeps rules _ c.loop-later.invariant.bounds)
          (subst (λ (l : Rule). All (IsClashBounded c.args.architecture more l) rules) c.later-item.is c.least_with-least.ensures.bounds);
      keeps = λ d h. keeps d (c.loop-later.invariant.keeps d h);
    }
