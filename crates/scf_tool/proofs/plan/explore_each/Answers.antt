use Rattle.scf_compare.specs.Sides.{behavior_of}
use Rattle.scf_compare.specs.declared.regions.Regions.{Regions}
use Rattle.scf_tool.proofs.Common.{◌≤◌, ℕ, List, ap, arith, subst, sum_by_push, take_more}
use Rattle.scf_tool.proofs.ExplorationLemmas.{widened}
use Rattle.std.proofs.Common.{sum_by, ◌*◌}
use Rattle.std.proofs.lemmas.List.Sums.{sum_by_more}
use Rattle.std.proofs.lemmas.Slice.Zip.{all_zipped_more}
use Rattle.scf_tool.specs.Explorations.{AreListed}
use Rattle.scf_tool.specs.declared.plan.Pairing.{Pairing}
use Rattle.scf_tool.proofs.plan.explore_each.Goals as goal

pub loop-pairing-preserved : goal.loop-pairing-preserved
loop-pairing-preserved c =
    let listed_in : ℕ → Pairing → Regions → Type 0 = λ limit pairing.
    AreListed (behavior_of pairing.left) (behavior_of pairing.right) pairing.over limit in
    let listed : Pairing → Regions → Type 0 = listed_in c.args.limit in
    let size : Pairing → ℕ = λ pairing. (behavior_of pairing.left).size * (behavior_of pairing.right).size in
    let steps : Regions → ℕ = λ regions. regions.steps in
    let pairing = c.pairing-item.result in
    let regions = c.in-Some.regions in
    let index = c.loop-pairing.pairing-index in
    let before = c.loop-pairing.listed.items in
    let are_listed : listed_in c.loop-pairing.remaining pairing regions =
    rw c.in-Some.is at c.in_ok-regions.ensures in
    let spent = c.loop-pairing.invariant.spent in
    let wide : listed pairing regions = widened (behavior_of pairing.left) (behavior_of pairing.right) pairing.over
    c.loop-pairing.remaining c.args.limit regions are_listed (omega arith) in
    let within = are_listed.are_regions.within_limit in
    let small : regions.steps ≤ size pairing = are_listed.are_regions.within_size in
    let all_steps = ap (λ (rs : List Regions). sum_by steps rs) c.in_ok-push.ensures.items in
    let more_steps = sum_by_push steps before regions in
    let more_sizes = sum_by_more size c.args.pairings.now index pairing c.loop-pairing-test.true in
    let same_size = ap size c.pairing-item.is in
    let below = c.loop-pairing.invariant.below in
    record {
      each = rw (take_more _ _ pairing c.loop-pairing-test.true, c.in_ok-push.ensures.items)
          (all_zipped_more listed _ _ _ _ c.loop-pairing.invariant.each
          (subst (λ (p : Pairing). listed p regions) c.pairing-item.is wide));
      spent = omega arith;
      below = omega arith;
    }
