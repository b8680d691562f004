-- How many bits masks have together.
use Rattle.std.proofs.lemmas.Grind.{common_steps}
use Rattle.std.proofs.Common.{le_refl}
use Rattle.std.specs.Int.Bits.{or_step}
use Rattle.std.specs.Int.Count.{ones_step}
use Rattle.std.proofs.lemmas.Grind.{pow_more}
use Rattle.std.proofs.lemmas.Nat.{le_or_l, ones_le_self, or_comm}
use Rattle.scf_facts.proofs.Common.{◌≡◌, ◌≢◌, ◌+◌, ◌-◌, ◌/◌, ◌<◌, ◌≤◌, ◌∙◌, ℕ, IsPowerOfTwo, ap, arith, bit_and, bit_or, cases_eq, count_ones, inl, inr, or_disjoint, pow_pos, same_from_bits, suc, zero}
use Rattle.scf_facts.proofs.MaskLaws.{at_bit, each_bit}
use Rattle.scf_facts.specs.Masks.{IsAmong}
use Rattle.scf_facts.specs.declared.free_number.Searched.{Searched}
use Rattle.scf_facts.specs.declared.free_number.Searched.TheVariants.{GaveUp, Nothing}
use Rattle.scf_facts.specs.internal.Searches.{IsSearchOf}

-- A number with further bits has as many ones as before only where it is the same.
pub more_ones : (digits a b : ℕ) → bit_or a b ≤ digits → (count_ones a ≤ count_ones (bit_or a b))
    × (count_ones a ≡ count_ones (bit_or a b) → a ≡ bit_or a b)
more_ones zero a b within =
    let same : a ≡ bit_or a b = omega (arith, le_or_l a b) in
    (omega (arith, ap count_ones same), λ ones. same)
more_ones (suc digits) a b within =
    let joined = bit_or a b in
    let step = or_step a b in
    let half = more_ones digits (a / 2) (b / 2) (omega arith) in
    let high : joined / 2 ≡ bit_or (a / 2) (b / 2) = omega arith in
    let of_a = ones_step a in
    let of_joined = ones_step joined in
    let of_high = ap count_ones high in
    (omega (arith, half.0), λ same. omega (arith, half.0, half.1 (omega (arith, half.0))))

-- a mask among others has no more bits
pub fewer_ones : (mask masks : ℕ) → IsAmong mask masks → count_ones mask ≤ count_ones masks
fewer_ones mask masks among =
    let joined : bit_or mask masks ≡ masks = same_from_bits _ _ (λ i. grind (arith, each_bit, at_bit i among)) in
    omega (arith, (more_ones _ mask masks (le_refl _)).0, ap count_ones joined)

-- one more bit is one more
pub one_more : (a bit : ℕ) → IsPowerOfTwo bit → bit_and a bit ≡ 0 → count_ones a < count_ones (bit_or a bit)
one_more a bit one apart =
    let joined = or_disjoint a bit apart in
    let ones = more_ones _ a bit (le_refl _) in
    let some : 0 < bit = omega (arith, one.1, pow_pos one.0) in
    elim (cases_eq (count_ones a) (count_ones (bit_or a bit))) [
      | inl same ↦ absurd (omega (arith, ones.1 same))
      | inr other ↦ omega (arith, ones.0)
    ]

joined_ones : (digits a b : ℕ) → bit_or a b ≤ digits → count_ones (bit_or a b) ≤ count_ones a + count_ones b
joined_ones zero a b within =
    let none : bit_or a b ≡ 0 = omega arith in
    omega (arith, ap count_ones none, ones_le_self 0)
joined_ones (suc digits) a b within =
    let joined = bit_or a b in
    let step = or_step a b in
    let half = joined_ones digits (a / 2) (b / 2) (omega arith) in
    let high : joined / 2 ≡ bit_or (a / 2) (b / 2) = omega arith in
    let of_a = ones_step a in
    let of_b = ones_step b in
    let of_joined = ones_step joined in
    let of_high = ap count_ones high in
    omega (arith, half)

-- masks have no more bits together than both
pub ones_of_both : (a b : ℕ) → count_ones (bit_or a b) ≤ count_ones a + count_ones b
ones_of_both a b = joined_ones _ a b (le_refl _)

-- one more of a mask's bits is fixed
pub fixes_one : (masks fixed bit count : ℕ) → IsPowerOfTwo bit → IsAmong bit masks → bit_and fixed bit ≡ 0
    → count_ones (bit_or masks fixed) ≤ count + count_ones fixed
    → (0 < count) × (count_ones (bit_or masks (bit_or fixed bit)) ≤ (count - 1) + count_ones (bit_or fixed bit))
fixes_one masks fixed bit count one among apart few =
    let same : bit_or masks (bit_or fixed bit) ≡ bit_or masks fixed =
    same_from_bits _ _ (λ i. grind (arith, each_bit, at_bit i among)) in
    let whole : bit_or (bit_or fixed bit) masks ≡ bit_or masks fixed = or_comm (bit_or fixed bit) masks ∙ same in
    let more = one_more fixed bit one apart in
    let within = (more_ones _ (bit_or fixed bit) masks (le_refl _)).0 in
    let ones = ap count_ones same in
    let whole_ones = ap count_ones whole in
    omega arith

-- so it is with the lowest bit of a mask that isn't fixed
pub fixes_lowest : (masks fixed mask rest bit count : ℕ) → IsAmong mask masks → IsAmong rest mask → bit_and fixed rest ≡ 0
    → IsAmong bit rest → IsPowerOfTwo bit → count_ones (bit_or masks fixed) ≤ count + count_ones fixed
    → (0 < count) × (count_ones (bit_or masks (bit_or fixed bit)) ≤ (count - 1) + count_ones (bit_or fixed bit))
fixes_lowest masks fixed mask rest bit count among part apart lowest one few =
    fixes_one masks fixed bit count one
    (same_from_bits _ _ (λ i. grind (arith, each_bit, at_bit i among, at_bit i part, at_bit i lowest)))
    (same_from_bits _ _ (λ i. grind (arith, each_bit, at_bit i apart, at_bit i lowest))) few

-- ---- tries

pub search_ends : (count old : ℕ) (result : Searched) → result ≢ GaveUp → IsSearchOf count old result old
search_ends count old result is = (omega (arith, pow_pos count), λ gave_up. absurd (is gave_up))

pub search_gives_up : (count : ℕ) → 0 < count → IsSearchOf count 0 GaveUp 0
search_gives_up count some =
    let less = count - 1 in
    let whole : count ≡ less + 1 = omega arith in
    rw whole (omega (arith, pow_more 2 less, pow_pos less), λ gave_up. omega (arith, pow_more 2 less, pow_pos less))

pub search_first : (count old new : ℕ) (result : Searched) → 0 < count → 0 < old
    → IsSearchOf (count - 1) (old - 1) result new → IsSearchOf count old result new
search_first count old new result some left first = grind (arith, common_steps, pow_more, pow_pos)

pub search_both : (count old between new : ℕ) (result : Searched) → 0 < count → 0 < old
    → IsSearchOf (count - 1) (old - 1) Nothing between → IsSearchOf (count - 1) between result new
    → IsSearchOf count old result new
search_both count old between new result some left first second = grind (arith, common_steps, pow_more, pow_pos)
