-- What an instruction that goes on does to what is known.
use Rattle.scf_compare.proofs.Common.{◌≡◌, ℕ, Bool, true, false, Option, None, Some, And, Constant, refl, subst, arith, Register, State, Fault, Goes, unless, loads, sets, Describes}
use Rattle.scf_compare.proofs.registers.KnownRegisters.apply.Goals as goal

pub returns-in-LoadWord-clause-describes : goal.returns-in-LoadWord-clause-describes
returns-in-LoadWord-clause-describes g c = λ words s t w allowed d e.
    grind (arith, c.set.ensures.describes words s _ d (c.of_word-word.ensures.number words w))

pub returns-in-LoadLength-clause-describes : goal.returns-in-LoadLength-clause-describes
returns-in-LoadLength-clause-describes g c = λ words s t w allowed d e.
    let set = c.set-in-LoadLength.ensures.describes words s _ d refl in grind arith

pub returns-in-LoadConstant-clause-describes : goal.returns-in-LoadConstant-clause-describes
returns-in-LoadConstant-clause-describes g c = λ words s t w allowed d e.
    let set = c.set-in-LoadConstant.ensures.describes words s _ d refl in grind arith

-- a scratch word that is loaded was stored
loaded : (b : Bool) (f : Fault) (r : Register) (s t : State) (found : Option ℕ)
    → unless b f (loads r s found) ≡ Goes t → (value : ℕ) × (found ≡ Some value) × (sets r s value ≡ t)
loaded true f r s t (Some value) e = (value, refl, cc)
loaded true f r s t None e = absurd (cc)
loaded false f r s t found e = absurd (cc)

pub returns-in-LoadScratch-clause-describes : goal.returns-in-LoadScratch-clause-describes
returns-in-LoadScratch-clause-describes g c = λ words s t w allowed d. rw c.in-LoadScratch.is (λ e.
    let (value, found, same) = loaded _ _ _ s t _ e in
    let stored = d.scratch c.args.insn.k value _ ((rw c.in-LoadScratch.is at c.requires.scratch) tt) found in
    subst (Describes c.set-in-LoadScratch.new.self words) same
    (c.set-in-LoadScratch.ensures.describes words s value d stored))

pub returns-in-StoreScratch-A-clause-describes : goal.returns-in-StoreScratch-A-clause-describes
returns-in-StoreScratch-A-clause-describes g c = λ words s t w allowed d e.
    let store = c.store.ensures.describes words s _ d d.a in grind arith

pub returns-in-StoreScratch-X-clause-describes : goal.returns-in-StoreScratch-X-clause-describes
returns-in-StoreScratch-X-clause-describes g c = λ words s t w allowed d e.
    let store = c.store-in-StoreScratch-X.ensures.describes words s _ d d.x in grind arith

pub returns-in-Compute-clause-describes : goal.returns-in-Compute-clause-describes
returns-in-Compute-clause-describes g c = λ words s t w allowed d e.
    let operand = c.operand_in_computation-value.ensures.stands words s allowed d in
    let computed = c.computed-computed.ensures.stands words s.a _ allowed d.a operand in
    grind (arith, c.set-in-Compute.ensures.describes words s _ d computed)

pub returns-in-Negate-clause-describes : goal.returns-in-Negate-clause-describes
returns-in-Negate-clause-describes g c = λ words s t w allowed d e.
    let negated = c.computed-negated.ensures.stands words 0 s.a allowed refl d.a in
    grind (arith, c.set-in-Negate.ensures.describes words s _ d negated)

pub returns-in-CopyToIndex-clause-describes : goal.returns-in-CopyToIndex-clause-describes
returns-in-CopyToIndex-clause-describes g c = λ words s t w allowed d e.
    let set = c.set-in-CopyToIndex.ensures.describes words s _ d d.a in grind arith

pub returns-in-CopyToAccumulator-clause-describes : goal.returns-in-CopyToAccumulator-clause-describes
returns-in-CopyToAccumulator-clause-describes g c = λ words s t w allowed d e.
    let set = c.set-in-CopyToAccumulator.ensures.describes words s _ d d.x in grind arith

pub returns-in-Compute-clause-masked : goal.returns-in-Compute-clause-masked
returns-in-Compute-clause-masked g c = λ compute masks under of_mask is.
    let here = c.in-Compute.is in
    let and : c.in-Compute.arithmetic ≡ And = grind arith in
    let constant : c.in-Compute.operand ≡ Constant = grind arith in
    rw (c.set-in-Compute.ensures.accumulator refl) (c.computed-computed.ensures.masked masks c.args.insn.k under is
    (c.operand_in_computation-value.ensures.constant constant) and of_mask)
