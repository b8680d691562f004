-- The rules of a profile and their conditions, one after another.
use Rattle.scf_compare.proofs.Common.{drop-cons, ◌≡◌, ◌≢◌, ℕ, suc, ◌+◌, ◌-◌, ◌*◌, ◌<◌, true, false, List, [], ◌∷◌, ◌++◌, Some, length, take, drop, get_or, ap, ◌∙◌, arith, slice_get, All, Contains, ne_eqb, All-push, get_or_from_slice_get, add-one, slice_get_read, slice_get_within, Architecture, argument_in, CallRecord, Condition, Rule, all_hold, meets, conditions_size, rules_size}
use Rattle.std.proofs.Math.Seq.{take-suc}
use Rattle.std.proofs.lemmas.List.{take_all}
use Rattle.std.proofs.lemmas.List.Folds.{list_all_at, list_all_more}
use Rattle.scf_profile.specs.Condition.{condition_holds}

-- ---- which rules a call of an architecture meets

module _ (architecture : Architecture) (call : CallRecord) where
  pub unmet_apart : (r : Rule) → call.nr ≢ r.number → meets architecture r call ≡ false
  unmet_apart r apart = rw (ne_eqb call.nr r.number apart)

  module _ (conditions : List Condition) (i : ℕ) (c : Condition) (here : slice_get conditions i ≡ Some c) where
    pub held_more : all_hold architecture call (take i conditions) ≡ true
        → condition_holds c (argument_in architecture call c.index) ≡ true
        → all_hold architecture call (take (i + 1) conditions) ≡ true
    held_more before h =
        let within = slice_get_within conditions i c here in
        rw (list_all_more _ conditions i c within, get_or_from_slice_get conditions i c c here, before) h

    pub fails_by : condition_holds c (argument_in architecture call c.index) ≡ false
        → all_hold architecture call conditions ≡ false
    fails_by h = grind (arith, list_all_at, slice_get_within, get_or_from_slice_get conditions i c c here)

-- ---- indices in lists

pub drop_here : {X : Type 0} (xs : List X) (i : ℕ) (x : X) → slice_get xs i ≡ Some x → drop i xs ≡ x ∷ drop (suc i) xs
drop_here xs i x here = rw (drop-cons xs i x (slice_get_within xs i x here), get_or_from_slice_get xs i x x here)

pub take_here : {X : Type 0} (xs : List X) (i : ℕ) (x : X) → slice_get xs i ≡ Some x → take (suc i) xs ≡ take i xs ++ x ∷ []
take_here xs i x here = rw (take-suc xs i x (slice_get_within xs i x here), get_or_from_slice_get xs i x x here)

pub contains_here : {X : Type 0} (xs : List X) (i : ℕ) (x : X) → slice_get xs i ≡ Some x → Contains xs x
contains_here xs i x here = (i, slice_get_within xs i x here, get_or_from_slice_get xs i x x here)

-- what holds before an index and there holds before the next one
pub all_more : {X : Type 0} (P : X → Type 0) (xs : List X) (index : ℕ) (x : X) → slice_get xs index ≡ Some x
    → All P (take index xs) → P x → All P (take (index + 1) xs)
all_more P xs index x here before holds =
    rw (add-one, take_here xs index x here) (All-push P (take index xs) x before holds)

-- ---- sizes

pub conditions_more : (conditions : List Condition) (index : ℕ) (c : Condition) (fails : ℕ)
    → slice_get conditions index ≡ Some c
    → conditions_size (drop index conditions) fails
    ≡ 3 + 2 * conditions_size (drop (index + 1) conditions) fails + 2 * fails
conditions_more conditions index c fails here = grind (arith, drop_here)

-- the rules from one on
pub rules_more : (rules : List Rule) (index : ℕ) (r : Rule) → slice_get rules index ≡ Some r
    → rules_size (drop index rules) ≡ conditions_size r.conditions (rules_size (drop (index + 1) rules))
rules_more rules index r here = grind (arith, drop_here)

-- ---- what the code reads

-- what is read of a list stands there
pub read_at : {X : Type 0} (read xs : List X) (index : ℕ) (x : X) → read ≡ xs → index < length read
    → x ≡ get_or read index x → slice_get xs index ≡ Some x
read_at read xs index x same inside is =
    slice_get_read xs (length read) index x (ap length same) inside
    (is ∙ ap (λ (l : List _). get_or l index x) same)

-- all but the last one, and the last one
pub without_last : {X : Type 0} (xs : List X) (x : X) → slice_get xs (length xs - 1) ≡ Some x
    → xs ≡ take (length xs - 1) xs ++ x ∷ []
without_last xs x here = grind (arith, take_here xs (length xs - 1) x here, slice_get_within xs (length xs - 1) x here, take_all (length xs) xs)
