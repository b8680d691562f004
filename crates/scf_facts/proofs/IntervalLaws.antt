-- Laws of intervals and their parts.
use Rattle.scf_facts.proofs.Common.{nat_tests, ◌-◌, ◌≡◌, ◌⊎◌, inl, inr, ℕ, zero, suc, refl, ◌+◌, ◌<◌, ◌≤◌, ◌↔◌, List, [], ◌∷◌, ◌++◌, get_or, get_or_from_slice_get, length, arith, nat_lt, if◌then◌else◌, All, IfSome, IfNone, Option, Some, None, slice_get, AllWithin, Interval, LiesIn, LiesInOne, AreApartFrom, AreApart, ArePartsOf, take, drop, max}

lies_append : (is js : List Interval) (x : ℕ) → LiesInOne (is ++ js) x ↔ (LiesInOne is x ⊎ LiesInOne js x)
lies_append [] js x = (inr, λ h. elim h [ inl none ↦ absurd none | inr there ↦ there ])
lies_append (i ∷ is) js x = grind (arith, lies_append is js x)

lies_from : (least : ℕ) (is : List Interval) (x : ℕ) → AreApartFrom least is → LiesInOne is x → least ≤ x
lies_from least [] x a h = absurd h
lies_from least (i ∷ is) x a h =
    elim h [ inl here ↦ omega arith | inr later ↦ omega (arith, a, lies_from (i.high + 1) is x a.2 later) ]

apart_from : (least : ℕ) (is : List Interval) (other : ℕ)
    → AreApartFrom least is → ((x : ℕ) → LiesInOne is x → other ≤ x) → AreApartFrom other is
apart_from least [] other a from = tt
apart_from least (i ∷ is) other a from = (from i.low (inl (omega arith, a.1)), a.1, a.2)

-- intervals below a bound before others from it on
apart_append : (least bound : ℕ) (is js : List Interval) → AreApartFrom least is → AreApart js → least ≤ bound
    → ((x : ℕ) → LiesInOne is x → x < bound) → ((x : ℕ) → LiesInOne js x → bound ≤ x) → AreApartFrom least (is ++ js)
apart_append least bound [] js a b le below above = apart_from 0 js least b (λ x h. omega (arith, above x h))
apart_append least bound (i ∷ is) js a b le below above = (
  a.0,
  a.1,
  apart_append (i.high + 1) bound is js a.2 b (omega (arith, below i.high (inl (a.1, omega arith))))
      (λ x h. below x (inr h)) above,
)

pub joined : (whole below above : List Interval) (range : Interval) → ArePartsOf (λ x. x < range.low) whole below
    → ArePartsOf (λ x. range.high + 1 ≤ x) whole above → range.low ≤ range.high
    → ArePartsOf (λ x. LiesIn range x → ⊥) whole (below ++ above)
joined whole below above range l u filled = (
  apart_append 0 range.low below above l.0 u.0 (omega arith) (λ x h. ((l.1 x).0 h).1)
      (λ x h. omega (arith, ((u.1 x).0 h).1)),
  λ x. grind (arith, lies_append below above x, l.1 x, u.1 x),
)

-- a range whose end lies in the first part from its start on
pub within_first : (whole later : List Interval) (first range : Interval)
    → ArePartsOf (λ x. range.low ≤ x) whole (first ∷ later) → first.low ≤ range.high → range.high ≤ first.high
    → ArePartsOf (LiesIn range) whole (record { low = first.low; high = range.high } ∷ [])
within_first whole later first range parts begins ends = (
  (omega arith, begins, tt),
  λ x. grind (arith, parts.1 x, lies_from (first.high + 1) later x parts.0.2),
)

ends : (least : ℕ) (is : List Interval) → AreApartFrom least is → (l : ℕ) (d : Interval)
    → l < length is → least ≤ (get_or is l d).high
ends least [] a l d lt = absurd (omega arith)
ends least (i ∷ is) a zero d lt = omega arith
ends least (i ∷ is) a (suc l) d lt = omega (arith, a.0, a.1, ends (i.high + 1) is a.2 l d)

-- no interval ends before an earlier one
pub rising : (least : ℕ) (is : List Interval) → AreApartFrom least is → (k l : ℕ) (d : Interval) → k ≤ l
    → l < length is → (get_or is k d).high ≤ (get_or is l d).high
rising least [] a k l d le lt = absurd (omega arith)
rising least (i ∷ is) a zero zero d le lt = omega arith
rising least (i ∷ is) a zero (suc l) d le lt = omega (arith, ends (i.high + 1) is a.2 l d)
rising least (i ∷ is) a (suc k) zero d le lt = absurd (omega arith)
rising least (i ∷ is) a (suc k) (suc l) d le lt = rising (i.high + 1) is a.2 k l d (omega arith) (omega arith)

-- ---- intervals of which the first k end below a bound, and the others don't

-- the part below a bound of an interval that reaches it
abbrev pub end_below : ℕ → Option Interval → List Interval
end_below bound None = []
end_below bound (Some i) = if nat_lt i.low bound then record { low = i.low; high = bound - 1 } ∷ [] else []

-- the part from a bound on of an interval that reaches it
abbrev pub begin_from : ℕ → Option Interval → List Interval
begin_from bound None = []
begin_from bound (Some i) = record { low = max i.low bound; high = i.high } ∷ []

pub parts_below : (least : ℕ) (is : List Interval) (k bound : ℕ) → AreApartFrom least is
    → AllWithin (λ i. i.high < bound) is 0 k → AllWithin (λ i. bound ≤ i.high) is k (length is)
    → (parts : List Interval) → parts ≡ take k is ++ end_below bound (slice_get is k)
    → AreApartFrom least parts × ((x : ℕ) → LiesInOne parts x ↔ (LiesInOne is x × (x < bound)))
parts_below least [] zero bound a below rest parts e = rw e (tt, λ x. grind arith)
parts_below least [] (suc k) bound a below rest parts e = rw e (tt, λ x. grind arith)
parts_below least (i ∷ is) zero bound a below rest parts e =
    rw e (grind (arith, nat_tests, lies_from (i.high + 1) is, rest 0 i (omega arith) (omega arith)))
parts_below least (i ∷ is) (suc k) bound a below rest parts e =
    let here : i.high < bound = below 0 i (omega arith) (omega arith) in
    let later = parts_below (i.high + 1) is k bound a.2 (λ j d _ lt. below (suc j) d (omega arith) (omega arith))
    (λ j d le lt. rest (suc j) d (omega arith) (omega arith)) _ refl in
    rw e ((a.0, a.1, later.0), λ x. grind (arith, later.1 x))

pub parts_from : (least : ℕ) (is : List Interval) (k bound : ℕ) → AreApartFrom least is
    → AllWithin (λ i. i.high < bound) is 0 k → AllWithin (λ i. bound ≤ i.high) is k (length is)
    → (parts : List Interval) → parts ≡ begin_from bound (slice_get is k) ++ drop (suc k) is
    → AreApart parts × ((x : ℕ) → LiesInOne parts x ↔ (LiesInOne is x × (bound ≤ x)))
parts_from least [] k bound a below rest parts e = rw e (tt, λ x. grind arith)
parts_from least (i ∷ is) zero bound a below rest parts e =
    let here : bound ≤ i.high = rest 0 i (omega arith) (omega arith) in
    rw e ((omega arith, omega (arith, a.1), a.2), λ x. grind (arith, lies_from (i.high + 1) is x a.2))
parts_from least (i ∷ is) (suc k) bound a below rest parts e =
    let here : i.high < bound = below 0 i (omega arith) (omega arith) in
    let later = parts_from (i.high + 1) is k bound a.2 (λ j d _ lt. below (suc j) d (omega arith) (omega arith))
    (λ j d le lt. rest (suc j) d (omega arith) (omega arith)) _ refl in
    rw e (later.0, λ x. grind (arith, later.1 x))

-- the next one reaches the bound
pub reaches : (is : List Interval) (k bound : ℕ) (i : Interval)
    → AllWithin (λ i. bound ≤ i.high) is k (length is) → slice_get is k ≡ Some i → bound ≤ i.high
reaches [] k bound i rest e = cc
reaches (j ∷ is) zero bound i rest e =
    let same : j ≡ i = cc in rw same at (rest 0 j (omega arith) (omega arith))
reaches (j ∷ is) (suc k) bound i rest e =
    reaches is k bound i (λ l d le lt. rest (suc l) d (omega arith) (omega arith)) e

-- the next one is the first that has a number from the bound on
pub reached : (least : ℕ) (is : List Interval) (k x : ℕ) (found : Option Interval)
    → AreApartFrom least is → AllWithin (λ i. i.high < x) is 0 k → found ≡ slice_get is k
    → IfSome found (λ i. (y : ℕ) → LiesIn i y → LiesInOne is y)
    × IfSome found (λ i. (y : ℕ) → x ≤ y → LiesInOne is y → i.low ≤ y)
    × IfNone found ((y : ℕ) → x ≤ y → LiesInOne is y → ⊥)
reached least [] k x None a below e = (tt, tt, λ y le h. h)
reached least [] k x (Some j) a below e = cc
reached least (i ∷ is) zero x None a below e = cc
reached least (i ∷ is) zero x (Some j) a below e =
    let same : j ≡ i = cc in
    rw same (λ y h. inl h, λ y le h. grind (arith, a.1, lies_from (i.high + 1) is y a.2), tt)
reached least (i ∷ is) (suc k) x found a below e =
    let here : i.high < x = below 0 i (omega arith) (omega arith) in
    let later = reached (i.high + 1) is k x found a.2 (λ j d _ lt. below (suc j) d (omega arith) (omega arith)) e in
    grind (arith, later)

-- ---- from the first interval to the last

-- both ends of the first interval lie in it
pub lies_first : (is : List Interval) (first : Interval) → AreApart is → slice_get is 0 ≡ Some first
    → LiesInOne is first.low × LiesInOne is first.high
lies_first [] first a begin = cc
lies_first (i ∷ is) first a begin =
    let same : first ≡ i = cc in rw same (inl (omega arith, a.1), inl (a.1, omega arith))

-- what each number of each interval has, a number in one of them has
lies_within : (P : ℕ → Type 0) (is : List Interval) (x : ℕ)
    → All (λ i. (y : ℕ) → LiesIn i y → P y) is → LiesInOne is x → P x
lies_within P [] x all h = absurd h
lies_within P (i ∷ is) x all h = elim h [
  | inl here ↦ all 0 i (omega arith) x here
  | inr later ↦ lies_within P is x (λ k d lt. all (suc k) d (omega arith)) later
]

-- a number in one of the intervals lies between the ends of all
pub within_ends : (is : List Interval) (first last : Interval) (x : ℕ) → AreApart is → slice_get is 0 ≡ Some first
    → slice_get is (length is - 1) ≡ Some last → LiesInOne is x → (first.low ≤ x) × (x ≤ last.high)
within_ends [] first last x a begin end h = absurd h
within_ends (i ∷ is) first last x a begin end h =
    let same : first ≡ i = cc in (
      rw same (lies_from i.low (i ∷ is) x (omega arith, a.1, a.2) h),
      lies_within (λ y. y ≤ last.high) (i ∷ is) x (λ k d lt y lies.
          let high = rising 0 (i ∷ is) a k (length (i ∷ is) - 1) d (omega arith) (omega arith) in
          let of_last : get_or (i ∷ is) (length (i ∷ is) - 1) d ≡ last = get_or_from_slice_get (i ∷ is) _ last d end in
          omega (arith, rw of_last at high, lies.1)) h,
    )
