use Rattle.scf_compare.specs.Sides.{Behavior}
use Rattle.scf_compare.specs.declared.regions.Regions.{Regions}
use Rattle.std.specs.Global.{Vec}
use Rattle.std.specs.Option.{option_map}
use Rattle.std.specs.Prelude.{◌&&◌, MatchOption, not}
use Rattle.scf_tool.proofs.Common.{IfOk-weaker, List, None, Option, Some, ℕ}
use Rattle.scf_tool.proofs.PlanLemmas.{explored_beside}
use Rattle.scf_tool.proofs.SideLemmas.{of_side}
use Rattle.scf_tool.specs.Explorations.{Explores, ExploresSides, scope_walked}
use Rattle.scf_tool.specs.declared.plan.Pairing.{Pairing}
use Rattle.scf_tool.proofs.exploration.list_answers.Goals as goal

explored_lists : (pairings : List Pairing) (limit : ℕ) (explored : Option (Vec Regions))
    → MatchOption explored (Explores pairings limit None) (λ listed. Explores pairings limit (Some listed.items))
    → Explores pairings limit (option_map (λ walks. walks.items) explored)
explored_lists pairings limit None is = is
explored_lists pairings limit (Some listed) is = is

pub returns : goal.returns
returns c =
    let sides = c.args.sides.now in
    let comparison = c.args.comparison.now in
    let limit = comparison.limits.each in
    let scope = scope_walked comparison.scopes in
    let of_each = sides.of_each && not c.args.has_differences in
    let pairings = c.in_ok-pairings.pairings.items in
    let explored = option_map (λ walks. walks.items) c.in_ok-explored.explored in
    let walked = explored_lists pairings limit c.in_ok-explored.explored
    (rw c.deref.ensures.value at c.in_ok-explored.ensures) in
    let are = rw (c.is_apart-of_each.ensures, c.scope_walked-scope.ensures) at c.in_ok-pairings.ensures in
    IfOk-weaker c.reply_of.result _ _
    (λ reply printed. (
      explored,
      of_side (λ (right : Behavior). ExploresSides of_each sides.left right scope limit explored) sides.right
          c.side-right.result c.side-right.ensures
          (explored_beside c.side-right.result scope of_each sides.left limit pairings explored are walked),
      printed,
    ))
    c.reply_of.ensures
