use Rattle.scf_tool.proofs.Common.{ap, refl, take_more, ◌∙◌}
use Rattle.scf_tool.proofs.PlanLemmas.{is_beside}
use Rattle.std.proofs.lemmas.Slice.Zip.{all_zipped_more}
use Rattle.scf_tool.specs.ArchitectureScopes.{scope_of}
use Rattle.scf_tool.specs.internal.Plans.{IsBesideProfile}
use Rattle.scf_tool.proofs.findings.beside_each.Goals as goal

pub loop-profile-preserved : goal.loop-profile-preserved
loop-profile-preserved c =
    let scope = c.args.scope in
    rw (take_more _ _ c.profile-item.result c.loop-profile-test.true, c.in_ok-push.ensures.items)
    (all_zipped_more (IsBesideProfile c.args.left scope) _ _ _ _ c.loop-profile.invariant
    (is_beside c.args.left scope c.profile-item.result _ _ c.profile-item.is refl c.from_ref.ensures.value
    (c.scope_of.ensures ∙ ap (scope_of scope) c.architecture.ensures)))
