use Rattle.scf_tool.proofs.Common.{ap, refl, take_more, ◌∙◌}
use Rattle.scf_tool.proofs.PlanLemmas.{is_apart}
use Rattle.std.proofs.lemmas.Slice.Zip.{all_zipped_more}
use Rattle.scf_tool.specs.ArchitectureScopes.{scope_of}
use Rattle.scf_tool.specs.internal.Plans.{IsProfileBeside}
use Rattle.scf_tool.proofs.exploration.each_apart.Goals as goal

pub loop-profile-preserved : goal.loop-profile-preserved
loop-profile-preserved c =
    let scope = c.args.scope in
    rw (take_more _ _ c.profile-item.result c.loop-profile-test.true, c.in_ok-push.ensures.items)
    (all_zipped_more (IsProfileBeside c.args.right scope) _ _ _ _ c.loop-profile.invariant
    (is_apart c.args.right scope c.profile-item.result _ _ c.profile-item.is c.from_ref.ensures.value refl
    (c.scope_of.ensures ∙ ap (scope_of scope) c.architecture.ensures)))
