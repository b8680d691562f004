use Rattle.scf_profile.proofs.Common.{refl, sym, Some, None}
use Rattle.scf_profile.proofs.Answering.{answered}
use Rattle.scf_profile.specs.contracts.profile.Profile.{the_view}
use Rattle.scf_profile.proofs.profile.Profile.answer.Goals as goal

pub returns-in-Some : goal.returns-in-Some
returns-in-Some c =
    let unstubbed = rw (← c.self.view_is) at (sym c.if-is_stubbed.ensures) in
    rw (← c.self.view_is)
    (answered (the_view c.self.inside) c.args.call.now (c.if-not-has.ensures.0 refl) unstubbed
    (Some c.in-Some.rule.now) (rw (← c.deref.ensures.value) c.in-Some.ensures))

pub returns-in-None : goal.returns-in-None
returns-in-None c =
    let unstubbed = rw (← c.self.view_is) at (sym c.if-is_stubbed.ensures) in
    rw (← c.self.view_is)
    (answered (the_view c.self.inside) c.args.call.now (c.if-not-has.ensures.0 refl) unstubbed
    None (rw (← c.deref.ensures.value) c.in-None.ensures))
