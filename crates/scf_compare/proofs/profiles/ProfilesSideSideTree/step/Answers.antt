-- The steps of the profile that is asked are steps of all.
use Rattle.std.proofs.lemmas.Option.{gets}
use Rattle.scf_compare.proofs.Common.{◌≡◌, ◌+◌, None, Some, arith, common_steps, length, refl, slice_get, slice_get_within}
use Rattle.scf_profile.proofs.Common.{both_ways}
use Rattle.scf_profile.proofs.Answering.{none_here}
use Rattle.scf_compare.specs.internal.Profiles.{EndsForeign}
use Rattle.scf_compare.specs.internal.SeveralProfiles.{size_of_later}
use Rattle.scf_compare.proofs.SeveralProfiles.{to_later, to_step}
use Rattle.scf_compare.proofs.profiles.ProfilesSideSideTree.step.Goals as goal

pub returns-in_default : goal.returns-in_default
returns-in_default g c =
    let none : slice_get c.args.self.now.profiles.now c.args.known.now.index ≡ None =
    grind (arith, common_steps, gets) in
    rw (none, c.leaf_by.ensures) (record {
      proper = (refl, tt);
      leads = λ words given of_none. (none_here _ _ _ _ of_none refl, none_here _ _ _ _ of_none refl);
      costs = omega arith;
      plain = λ masks plain. refl;
    })

pub with_numbers-requires : goal.with_numbers-requires
with_numbers-requires g c =
    let stands : slice_get c.args.self.now.profiles.now c.args.known.now.index ≡ Some c.in-Some.profile.now =
    grind (arith, common_steps, gets) in
    (rw stands at c.requires).0

pub step_from-step-requires : goal.step_from-step-requires
step_from-step-requires g c =
    let stands : slice_get c.args.self.now.profiles.now c.args.known.now.index ≡ Some c.in-Some.profile.now =
    grind (arith, common_steps, gets) in
    rw c.with_numbers.ensures.profile ((rw stands at c.requires).1)

pub returns-then-self-eq1 : goal.returns-then-self-eq1
returns-then-self-eq1 g c =
    let profiles = c.args.self.now.profiles.now in
    let index = c.args.known.now.index in
    let stands : slice_get profiles index ≡ Some c.in-Some.profile.now = grind (arith, common_steps, gets) in
    let inside = slice_get_within profiles index _ stands in
    let step =
    rw c.with_numbers.ensures.profile at (c.step_from-step.ensures.step (size_of_later profiles index) (omega arith)) in
    let last : EndsForeign c.step_from-step.result → index + 1 ≡ length profiles =
    grind (arith, common_steps, both_ways) in
    rw stands
    (to_step profiles c.args.known.now.numbers.now index _ stands _ c.args.node (rw stands at c.requires).0 _ last step)

pub returns : goal.returns
returns g c =
    let profiles = c.args.self.now.profiles.now in
    let index = c.args.known.now.index in
    let stands : slice_get profiles index ≡ Some c.in-Some.profile.now = grind (arith, common_steps, gets) in
    let ends = rw c.with_numbers.ensures.profile at c.step_from-step.ensures in
    let foreign : EndsForeign c.step_from-step.result = c.ends_foreign.ensures.0 c.if-not-ends_foreign.false in
    let later = c.start_at-root.ensures in
    rw stands
    (to_later profiles c.args.known.now.numbers.now index _ stands _ c.args.node (rw stands at c.requires).0 _ foreign
    (ends.step (size_of_later profiles index) (omega arith)) (ends.foreign foreign (size_of_later profiles index)) _ _
    later.node later.reached later.size (λ masks all. grind (arith, common_steps)))
