use Rattle.scf_profile.proofs.Common.{arith, refl, subst, take_all, both_ways, All-more, All-same, IsOf, Profile}
use Rattle.scf_profile.proofs.Answering.{first_here, none_here}
use Rattle.scf_profile.proofs.profiles.profile_for.Goals as goal

pub loop-profile-preserved : goal.loop-profile-preserved
loop-profile-preserved c =
    let call = c.args.call.now in
    let has = rw c.architecture.ensures at c.has.ensures in
    All-more (λ (p : Profile). IsOf p.architecture call → ⊥) c.args.profiles.now c.loop-profile.profile-index
    c.profile-item.result c.loop-profile-test.true c.loop-profile.invariant
    (subst (λ (p : Profile). IsOf p.architecture call → ⊥) c.profile-item.is
    (λ of_profile. both_ways _ c.if-has.false (has.1 of_profile)))

pub returns-then-has : goal.returns-then-has
returns-then-has c =
    let has = rw c.architecture.ensures at c.has.ensures in
    first_here c.args.call.now _ _ c.args.profiles.now c.loop-profile.profile-index c.profile-item.result
    c.loop-profile-test.true c.profile-item.is c.loop-profile.invariant (has.0 c.if-has.true) refl

pub returns : goal.returns
returns c = grind (arith, c.loop-profile-test.false, c.loop-profile.invariant, none_here, All-same, take_all)
