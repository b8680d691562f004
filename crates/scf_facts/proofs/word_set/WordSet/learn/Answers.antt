use Rattle.scf_facts.proofs.Common.{◌≡◌, ◌↔◌, Bool, true, false, arith}
use mathlib.Core.Bool.{beq}
use Rattle.std.proofs.lemmas.Result.{IfOk-weaker}
use Rattle.scf_facts.proofs.word_set.WordSet.learn.Goals as goal

-- what isn't one answer is the other
other : (asked answer holds : Bool) (P : Type 0) → beq answer holds ≡ false → P ↔ (asked ≡ answer)
    → (P → ⊥) ↔ (asked ≡ holds)
other true true false P differ says = grind (arith, says)
other true false true P differ says = grind (arith, says)
other false true false P differ says = grind (arith, says)
other false false true P differ says = grind (arith, says)
other asked true true P differ says = cc
other asked false false P differ says = cc

pub returns-in_ok-with_intervals-in-Within-2-clause-learned : goal.returns-in_ok-with_intervals-in-Within-2-clause-learned
returns-in_ok-with_intervals-in-Within-2-clause-learned c = λ x fits.
    let says = other _ _ _ _ c.if-answer-holds.false (c.in-Within.ensures.asks.1 x fits) in
    grind (arith, c.in_ok-kept-in-Within-2.ensures.1 x, says)

pub returns-in-Masked-2-clause-learned : goal.returns-in-Masked-2-clause-learned
returns-in-Masked-2-clause-learned c =
    IfOk-weaker c.without_bits.result _ _
    (λ kept is x fits.
    let says = other _ true c.args.holds _ (grind (arith, c.if-holds.false)) (c.in-Masked-2.ensures.asks.1 x) in
    grind (arith, is x, says))
    c.without_bits.ensures.kept

pub returns-in-Masked-2-clause-among : goal.returns-in-Masked-2-clause-among
returns-in-Masked-2-clause-among c =
    IfOk-weaker c.without_bits.result _ _
    (λ kept is masks keeps. grind (arith, c.in-Masked-2.ensures.among masks c.args.holds keeps, c.if-holds.false, is masks))
    c.without_bits.ensures.among
