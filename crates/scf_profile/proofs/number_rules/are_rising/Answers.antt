use Rattle.scf_profile.proofs.Common.{common_steps, nat_tests, ◌≡◌, Some, arith, inl, inr, refl}
use Rattle.std.proofs.lemmas.Bool.{cases_lt}
use Rattle.std.proofs.lemmas.Option.{slice_get_read, slice_get_within}
use Rattle.std.specs.List.{slice_get}
use Rattle.scf_profile.specs.NumberRules.{Rise}
use Rattle.scf_profile.proofs.number_rules.are_rising.Goals as goal

pub loop-i-preserved : goal.loop-i-preserved
loop-i-preserved c = λ i j r s le lt begins later.
    let rules = c.args.rules.now in
    let n = c.loop-i.i in
    let own = c.index-rules-i.result in
    let earlier = c.index-rules-saturating_sub.result in
    let inside = c.loop-i-test.true in
    let here : slice_get rules n ≡ Some own = slice_get_read rules _ n own refl inside c.index-rules-i.is in
    let before : slice_get rules c.saturating_sub.result ≡ Some earlier =
    slice_get_read rules _ c.saturating_sub.result earlier refl (omega (arith, inside, c.saturating_sub.ensures))
    c.index-rules-saturating_sub.is in
    let rise : Rise earlier own = c.if-not-rises_to.ensures refl in
    elim (cases_lt j n) [
      | inl below ↦ c.loop-i.invariant i j r s le below begins later
      | inr past ↦
          let last : s ≡ own = grind (arith, later, here, past, lt) in
          elim (cases_lt i n) [
            | inl sooner ↦
                let first = c.loop-i.invariant i c.saturating_sub.result r earlier (omega (arith, sooner, c.saturating_sub.ensures))
                (omega (arith, sooner, c.saturating_sub.ensures)) begins before in
                rw last (grind (arith, common_steps, nat_tests, first, rise))
            | inr same ↦
                let alike : r ≡ own = grind (arith, begins, here, same, le, past, lt) in
                rw (alike, last) (grind (arith, common_steps, nat_tests, rise))
          ]
    ]

pub returns : goal.returns
returns c = grind (arith, common_steps, nat_tests, c.loop-i.invariant, c.loop-i-test.false, slice_get_within)
