-- How many splits a comparison can make.
use Rattle.std.specs.Prelude.{count_ones}
use Rattle.std.proofs.Math.Nat.{pow-le-pow_right}
use Rattle.std.proofs.lemmas.Grind.{pow_more}
use Rattle.std.proofs.lemmas.List.Sums.{sum_by-cons}
use Rattle.scf_facts.specs.declared.bits.Bits.{Bits}
use Rattle.scf_compare.proofs.Common.{[], ◌∷◌, ◌≡◌, ◌+◌, ◌-◌, ◌*◌, ◌<◌, ◌≤◌, ◌^◌, ℕ, List, arith, length, pow_pos}
use Rattle.scf_compare.specs.Splits.{Split, Splitting, SplitsEnd, Unsplit, open_bits, split_count}

-- two halves in which fewer bits are left, and the split itself
both_halves : (left set clear x y : ℕ) → set < left → clear < left → x < 2 ^ set → y < 2 ^ clear → 1 + x + y < 2 ^ left
both_halves left set clear x y fewer_set fewer_clear of_set of_clear =
    let fewer = left - 1 in
    let whole : left ≡ fewer + 1 = omega arith in
    let below = λ (some : ℕ) (less : some < left).
    let within : 2 ^ some ≤ 2 ^ fewer = pow-le-pow_right (omega arith) (omega arith) in within in
    rw whole (omega (arith, pow_more 2 fewer, below set fewer_set, below clear fewer_clear))

fewer_splits : {left : ℕ} (splits : Splitting left) → split_count splits < 2 ^ left
fewer_splits {left} Unsplit = omega (arith, pow_pos left)
fewer_splits {left} (Split fewer_set fewer_clear if_set if_clear) =
    both_halves left _ _ _ _ fewer_set fewer_clear (fewer_splits if_set) (fewer_splits if_clear)

within_words : (fixed : List Bits) → open_bits fixed ≤ 32 * length fixed
within_words [] = omega arith
within_words (bits ∷ fixed) = omega (arith, within_words fixed, sum_by-cons (λ (b : Bits). 32 - count_ones b.mask) bits fixed)

pub splits_end : SplitsEnd
splits_end = λ fixed sixteen splits.
    let within : open_bits fixed ≤ 512 = omega (arith, within_words fixed) in
    let few : 2 ^ open_bits fixed ≤ 2 ^ 512 = pow-le-pow_right (omega arith) within in
    omega (arith, fewer_splits splits, few)
