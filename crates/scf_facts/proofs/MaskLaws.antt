-- Laws of numbers under masks.
use Rattle.std.proofs.lemmas.Grind.{common_steps}
use Rattle.scf_facts.proofs.Common.{◌≡◌, ◌≢◌, ◌⊎◌, inl, inr, ℕ, ◌+◌, ◌<◌, ◌^◌, ◌↔◌, refl, sym, ap, ◌∙◌, arith, bit_and, bit_or, bit_xor, count_ones, Bool, true, false, IsTrue, bit_at, IsPowerOfTwo, is_power_of_two, SomeLack, cases_eq, eqb-true, eqb-false, and_comm, or_disjoint, pow_pos, xor_lt, power_from_one_bit, one_bit_of_power, bit_at_and, bit_at_or, bit_at_xor, bit_at-lt, bit_at-zero, and_pow, same_from_bits}
use Rattle.scf_facts.specs.Masks.{IsAmong}

-- what is said of each bit of a number that is made of others
pub ruleset each_bit = (bit_at_and, bit_at_or, bit_at_xor, bit_at-lt, bit_at-zero)

pub at_bit : (i : ℕ) {a b : ℕ} → a ≡ b → bit_at a i ≡ bit_at b i
at_bit i e = ap (λ n. bit_at n i) e

-- the bits of both are those under the joined mask, where the joined value has both
pub joined : (x k a m v : ℕ) → bit_and (bit_or a v) k ≡ a → bit_and (bit_or a v) m ≡ v
    → (bit_and x (bit_or k m) ≡ bit_or a v) ↔ ((bit_and x k ≡ a) × (bit_and x m ≡ v))
joined x k a m v left right = (
  λ e. (same_from_bits _ _ (λ i. grind (arith, each_bit)), same_from_bits _ _ (λ i. grind (arith, each_bit))),
  λ h. same_from_bits _ _ (λ i. grind (arith, each_bit)),
)

-- a number with both shows that the joined value has both
pub in_joined : (x k a m v : ℕ) → bit_and x k ≡ a → bit_and x m ≡ v
    → (bit_and (bit_or a v) k ≡ a) × (bit_and (bit_or a v) m ≡ v)
in_joined x k a m v p q =
    (same_from_bits _ _ (λ i. grind (arith, each_bit)), same_from_bits _ _ (λ i. grind (arith, each_bit)))

pub and_twice : (x m : ℕ) → bit_and (bit_and x m) m ≡ bit_and x m
and_twice x m = same_from_bits _ _ (λ i. grind (arith, each_bit))

-- what has a value under a mask has its part under a part of the mask
pub part_of : (x k a m v : ℕ) → bit_and k m ≡ m → bit_and a m ≡ v → bit_and x k ≡ a → bit_and x m ≡ v
part_of x k a m v part same e = same_from_bits _ _ (λ i. grind (arith, each_bit))

-- a mask without the bits of another one
abbrev pub beyond : ℕ → ℕ → ℕ
beyond m k = bit_xor m (bit_and m k)

-- of a number with known bits the value of others depends on those alone that are open
pub decides : (some x k a m v : ℕ) → bit_and some k ≡ a → bit_and some m ≡ v → bit_and x k ≡ a
    → (bit_and x m ≡ v) ↔ (bit_and x (beyond m k) ≡ bit_and v (beyond m k))
decides some x k a m v shown has known = (
  λ e. same_from_bits _ _ (λ i. grind (arith, each_bit, at_bit i e)),
  λ e. same_from_bits _ _
      (λ i. grind (arith, each_bit, at_bit i shown, at_bit i has, at_bit i known, at_bit i e)),
)

-- the bits beyond with those that both masks have are the mask
pub beyond_rest : (m k : ℕ) → beyond m k + bit_and m k ≡ m
beyond_rest m k = sym (or_disjoint (beyond m k) (bit_and m k) (same_from_bits _ _ (λ i. grind (arith, each_bit))))
    ∙ same_from_bits _ _ (λ i. grind (arith, each_bit))

-- they are among those of the mask, and apart from the others
pub beyond_among : (m k : ℕ) → bit_and m (beyond m k) ≡ beyond m k
beyond_among m k = same_from_bits _ _ (λ i. grind (arith, each_bit))

pub beyond_apart : (m k : ℕ) → bit_and k (beyond m k) ≡ 0
beyond_apart m k = same_from_bits _ _ (λ i. grind (arith, each_bit))

-- a number under one bit is nothing or the bit
pub under_power : (x m : ℕ) → IsPowerOfTwo m → (bit_and x m ≡ 0) ⊎ (bit_and x m ≡ m)
under_power x m (k, e) = grind (arith, and_pow x k, bit_at-lt x k, cases_eq (bit_at x k) 0)

-- of one bit at most it is left beyond others
pub one_beyond : (m k : ℕ) → IsPowerOfTwo m → (beyond m k ≡ 0) ⊎ IsPowerOfTwo (beyond m k)
one_beyond m k one = elim (under_power k m one) [
  | inl none ↦ inr (one.0, omega (arith, beyond_rest m k, and_comm m k, one.1))
  | inr some ↦ inl (omega (arith, beyond_rest m k, and_comm m k))
]

-- a number has one value of a bit or the other
pub flipped : (x m v : ℕ) → IsPowerOfTwo m → bit_and v m ≡ v → (bit_and x m ≡ bit_xor v m) ↔ (bit_and x m ≢ v)
flipped x m v one within =
    grind (arith, common_steps, bit_xor, same_from_bits, and_comm, beyond_rest, under_power, pow_pos)

-- where a mask has bits beyond the known ones, some number with these lacks its value
pub some_lack : (k a m v : ℕ) → m < 2 ^ 32 → a < 2 ^ 32 → bit_and a k ≡ a → bit_and k m ≢ m
    → SomeLack (record { mask = k; value = a }) (record { mask = m; value = v })
some_lack k a m v fits_m fits_a within more = elim (cases_eq (bit_and a m) v) [
  | inr lacks ↦ (a, fits_a, within, lacks)
  | inl has ↦ (
    bit_xor a (beyond m k),
    xor_lt 32 a (beyond m k) fits_a (omega (arith, beyond_rest m k)),
    same_from_bits _ _ (λ i. grind (arith, each_bit)),
    λ e. more (same_from_bits _ _ (λ i. grind (arith, each_bit, at_bit i has, at_bit i e))),
  )
]

-- masks among others, joined
pub join_among : (a b masks : ℕ) → IsAmong a masks → IsAmong b masks → IsAmong (bit_or a b) masks
join_among a b masks first second = same_from_bits _ _ (λ i. grind (arith, each_bit, at_bit i first, at_bit i second))

-- the test for a power of two tells whether a mask has one bit
pub is_one : (n : ℕ) (answer : Bool) → answer ≡ is_power_of_two n → IsTrue answer ↔ IsPowerOfTwo n
is_one n true e = (λ _. power_from_one_bit n (eqb-true (count_ones n) 1 (sym e)), λ _. refl)
is_one n false e = (
  λ h. cc,
  λ p. absurd (eqb-false (count_ones n) 1 (sym e) (ap count_ones p.1 ∙ one_bit_of_power p.0)),
)

pub ruleset beyond_laws = (one_beyond, beyond_rest, beyond_among, beyond_apart, and_twice)
