use Rattle.scf_compare.proofs.Common.{ℕ, ◌≡◌, ◌*◌, ◌/◌, ◌<◌, ◌≤◌, ◌^◌, List, and_le_r, ap, arith, bit_and, le-div_iff_mul-le, mod-eq_of_lt, mul-le-mul_left, pow_pos, shr_mono, slice_index, subst, sym, refl, Decides, ◌∙◌, common_steps}
use Rattle.scf_compare.proofs.AffineTerms.{none_between, only_between, past_below}
use Rattle.scf_compare.specs.internal.BitSlices.{bit_slice_value}
use Rattle.scf_compare.specs.declared.bit_slice.BitSlice.{BitSlice}
use Rattle.scf_compare.proofs.bit_slice.BitSlice.is_within.Goals as goal

-- the count of units of a slice
units : BitSlice → List ℕ → ℕ
units s words = bit_and (slice_index words s.word) s.mask / 2 ^ s.right

units_most : (s : BitSlice) (words : List ℕ) → units s words ≤ s.mask / 2 ^ s.right
unfolding units
units_most s words = shr_mono s.right (and_le_r (slice_index words s.word) s.mask)

of_units : (s : BitSlice) (words : List ℕ) → bit_slice_value s words ≡ units s words * 2 ^ s.left
unfolding units
of_units s words = refl

pub returns-then-first-last-clause-decides : goal.returns-then-first-last-clause-decides
returns-then-first-last-clause-decides c = λ words is.
    let s = c.args.self in
    let z = units s words in
    let within = units_most s words in
    let from = c.first_unit-first.ensures z in
    let to = le-div_iff_mul-le {k = 2 ^ s.left} {x = z} {y = c.args.high} (pow_pos s.left) in
    none_between (bit_slice_value s words) c.args.low c.args.high (λ least most.
    let first = from.0 (rw (of_units s words) at least) in
    let last = to.1 (rw (of_units s words) at most) in
    omega (arith, first, last, within, c.min-last.ensures, c.if-first-last.true))

pub returns-then-first-last-2-clause-decides : goal.returns-then-first-last-2-clause-decides
returns-then-first-last-2-clause-decides c = λ words is.
    let s = c.args.self in
    let z = units s words in
    let within = units_most s words in
    let f = c.first_unit-first.result in
    let inside : f ≤ s.mask / 2 ^ s.right = omega (arith, c.min-last.ensures, c.if-first-last-2.true) in
    let fits : f * 2 ^ s.left < 2 ^ 32 = omega (arith, mul-le-mul_left (2 ^ s.left) inside, c.requires.bit_slice.fits) in
    let from = c.first_unit-first.ensures z in
    let least = (c.first_unit-first.ensures f).1 (omega arith) in
    let to = le-div_iff_mul-le {k = 2 ^ s.left} {x = z} {y = c.args.high} (pow_pos s.left) in
    let reach = le-div_iff_mul-le {k = 2 ^ s.left} {x = f} {y = c.args.high} (pow_pos s.left) in
    let most = reach.0 (omega (arith, c.min-last.ensures, c.if-first-last-2.true)) in
    let same = only_between (bit_slice_value s words) c.args.low c.args.high (f * 2 ^ s.left) least most (λ low high.
    let first = from.0 (rw (of_units s words) at low) in
    let last = to.1 (rw (of_units s words) at high) in
    let one : z ≡ f = omega (arith, first, last, within, c.min-last.ensures, c.if-first-last-2.true) in
    of_units s words ∙ ap (λ n. n * 2 ^ s.left) one) in
    subst (λ b. Decides c.is.result words b) (sym same) (rw (mod-eq_of_lt fits) at (c.is.ensures.decides words))

pub returns-then-last-most-clause-decides : goal.returns-then-last-most-clause-decides
returns-then-last-most-clause-decides c =
    grind (arith, common_steps, c.is_above-then-last-most.ensures.decides, units, le-div_iff_mul-le, pow_pos, units_most, past_below, of_units)
