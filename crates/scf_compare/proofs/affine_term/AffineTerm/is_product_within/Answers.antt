use Rattle.scf_compare.proofs.Common.{ℕ, ◌<◌, ◌^◌, ap, subst, sym, arith, slice_index, xor_lt, Decides}
use Rattle.scf_compare.proofs.BitSlices.{number_fits}
use Rattle.scf_compare.proofs.AffineTerms.{by_inverse, by_one}
use Rattle.scf_compare.specs.internal.AffineTerms.{is_within, xored_value}
use Rattle.scf_compare.specs.internal.BitSlices.{bit_slice_value}
use Rattle.scf_compare.proofs.affine_term.AffineTerm.is_product_within.Goals as goal

pub returns-then-self-eq1-clause-decides : goal.returns-then-self-eq1-clause-decides
returns-then-self-eq1-clause-decides c = λ words is.
    let own = c.args.self in
    let s = own.bit_slice in
    let fits = number_fits (slice_index words s.word) s.mask s.right s.left c.requires.term.bit_slice.fits in
    let below : xored_value own words < 2 ^ 32 = xor_lt 32 (bit_slice_value s words) own.xor_mask fits (omega arith) in
    let same = by_one (xored_value own words) own.factor below (omega (arith, c.if-self-eq1.true)) in
    subst (λ b. Decides c.is_xored_within.result words b)
    (ap (λ (n : ℕ). is_within c.args.low c.args.high n) (sym same)) (c.is_xored_within.ensures.decides words is)

pub returns-in-Some-clause-decides : goal.returns-in-Some-clause-decides
returns-in-Some-clause-decides c = λ words is.
    let own = c.args.self in
    let s = own.bit_slice in
    let fits = number_fits (slice_index words s.word) s.mask s.right s.left c.requires.term.bit_slice.fits in
    let below : xored_value own words < 2 ^ 32 = xor_lt 32 (bit_slice_value s words) own.xor_mask fits (omega arith) in
    let same = by_inverse (xored_value own words) own.factor c.in-Some.inverse c.args.low c.args.high c.in-Some.ensures
    c.if-low-high.true c.ranges.low.fits below in
    subst (λ b. Decides c.is_xored_within-in-Some.result words b) (sym same)
    (c.is_xored_within-in-Some.ensures.decides words is)
