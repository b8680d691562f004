use Rattle.std.proofs.lemmas.Result.{IfOk-weaker}
use Rattle.scf_facts.proofs.Common.{◌≡◌, ◌↔◌, ◌∙◌, ◌++◌, ◌∷◌, [], ℕ, All-pop, All-push, AllowsNumber, Bits, LacksBits, NumberFacts, Some, and_zero_r, ap, arith, bit_and, refl, subst, sym, common_steps}
use Rattle.scf_facts.proofs.MaskLaws.{is_one}
use Rattle.scf_facts.proofs.word_set.WordSet.without_bits.Goals as goal

-- what lacks bits, where all with the known ones have these if they have the rest
lacks : (kept known flipped bits rest : Type 0) → kept ↔ (known × flipped) → flipped ↔ (rest → ⊥)
    → (known → bits ↔ rest) → kept ↔ (known × (bits → ⊥))
lacks kept known flipped bits rest is other same = grind (arith, common_steps, is.0, other.0, same, is.1, other.1)

-- what lacks one more bits
pushed : (facts : NumberFacts) (bits : Bits) (x : ℕ)
    → AllowsNumber (record facts { refuted = facts.refuted ++ bits ∷ [] }) x ↔ (AllowsNumber facts x × LacksBits bits x)
pushed facts bits x =
    let P : Bits → Type 0 = λ other. LacksBits other x in
    grind (arith, All-pop P (facts.refuted ++ bits ∷ []) facts.refuted (Some bits) refl, All-push P facts.refuted bits)

pub returns-in_default-clause-kept : goal.returns-in_default-clause-kept
returns-in_default-clause-kept c = grind (arith, common_steps, IfOk-weaker, c.in_default.ensures.none, c.copy.ensures)

pub returns-in_default-clause-refuted : goal.returns-in_default-clause-refuted
returns-in_default-clause-refuted c = IfOk-weaker c.copy.result _ _ (λ kept is one. rw is refl) c.copy.ensures

pub returns-in_default-clause-among : goal.returns-in_default-clause-among
returns-in_default-clause-among c =
    IfOk-weaker c.copy.result _ _ (λ kept is masks few among. rw is among) c.copy.ensures

pub returns-then-open-eq0-clause-kept : goal.returns-then-open-eq0-clause-kept
returns-then-open-eq0-clause-kept c =
    let rest = c.beyond-open.result in
    let shown = c.in-Some.ensures.shown in
    let none : rest.mask ≡ 0 = c.if-open-eq0.true in
    let no_value : rest.value ≡ 0 =
    sym c.beyond-open.ensures.within ∙ ap (bit_and rest.value) none ∙ and_zero_r rest.value in
    grind (arith, common_steps, c.beyond-open.ensures.decides, IfOk-weaker, and_zero_r)

pub returns-then-open-eq0-clause-refuted : goal.returns-then-open-eq0-clause-refuted
returns-then-open-eq0-clause-refuted c =
    IfOk-weaker c.with_intervals.result _ _ (λ kept is one. rw is refl) c.with_intervals.ensures

pub returns-then-open-eq0-clause-among : goal.returns-then-open-eq0-clause-among
returns-then-open-eq0-clause-among c =
    IfOk-weaker c.with_intervals.result _ _ (λ kept is masks few among. rw is among) c.with_intervals.ensures

pub flipped-requires-clause-one : goal.flipped-requires-clause-one
flipped-requires-clause-one c = (is_one _ _ c.is_power_of_two.ensures).0 c.if-is_power_of_two.true

pub flipped-requires-clause-within : goal.flipped-requires-clause-within
flipped-requires-clause-within c = c.beyond-open.ensures.within

pub returns-then-is_power_of_two-clause-kept : goal.returns-then-is_power_of_two-clause-kept
returns-then-is_power_of_two-clause-kept c =
    let shown = c.in-Some.ensures.shown in
    IfOk-weaker c.with_bits.result _ _
    (λ kept is x.
    lacks _ _ _ _ _ (is x) (c.flipped.ensures.other x)
    (λ allows. c.beyond-open.ensures.decides _ x shown.0 shown.1 (rw (← c.self.view_is) at allows.known)))
    c.with_bits.ensures.kept

pub returns-then-is_power_of_two-clause-refuted : goal.returns-then-is_power_of_two-clause-refuted
returns-then-is_power_of_two-clause-refuted c =
    IfOk-weaker c.with_bits.result _ _ (λ kept is one. is) c.with_bits.ensures.refuted

pub returns-then-is_power_of_two-clause-among : goal.returns-then-is_power_of_two-clause-among
returns-then-is_power_of_two-clause-among c =
    IfOk-weaker c.with_bits.result _ _ (λ kept is masks few among. rw is among) c.with_bits.ensures.refuted

pub returns-clause-kept : goal.returns-clause-kept
returns-clause-kept c = λ x.
    let facts : NumberFacts = record {
      intervals = c.kept.inside.intervals.items;
      known = c.kept.inside.known;
      refuted = c.kept.inside.refuted.items;
    } in
    let same : facts ≡ c.args.self.now = c.kept.view_is ∙ c.in_ok-kept.ensures in
    rw c.in_ok-push.ensures.items
    (subst (λ old. AllowsNumber (record facts { refuted = facts.refuted ++ c.args.bits ∷ [] }) x
    ↔ (AllowsNumber old x × LacksBits c.args.bits x)) same (pushed facts c.args.bits x))

pub returns-clause-refuted : goal.returns-clause-refuted
returns-clause-refuted c = grind (
  arith,
  common_steps,
  c.if-open-eq0.false,
  c.beyond-open.ensures.none,
  c.beyond-open.ensures.one,
  is_one,
  c.is_power_of_two.ensures,
  c.if-is_power_of_two.false,
)
