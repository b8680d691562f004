-- One write after another.
use Rattle.scf_insn.proofs.Common.{◌≡◌, ℕ, ◌+◌, ◌-◌, ◌<◌, ◌++◌, List, [], length, get_or, take, drop, Option, Result, Ok, Err, refl, sym, ap, ◌∙◌, append_assoc, arith, length-drop, flat_map, Appends, Appends-nil, Appends-trans, take_all, drop_more, take-append-drop, flat_map-append, TakesAll, TakesBeginning, Writes}

-- a write that fails is a beginning of all that was to come
pub fails_first : {old new : Option (List ℕ)} {a : List ℕ} {m n : ℕ} (b : List ℕ) → TakesBeginning old a new m n
    → TakesBeginning old (a ++ b) new m n
fails_first {old} {new} {a} {m} {n} b w =
    record {
      front = w.front;
      rest = w.rest
          ++ b;
      whole = rw w.whole (append_assoc w.front w.rest b);
      taken = w.taken;
      failed = w.failed;
    }

pub fails_then : {old mid new : Option (List ℕ)} {a b : List ℕ} {m k n : ℕ} → TakesAll old a mid m k
    → TakesBeginning mid b new k n → TakesBeginning old (a ++ b) new m n
fails_then {old} {mid} {new} {a} {b} {m} {k} {n} v w =
    record {
      front = a
          ++ w.front;
      rest = w.rest;
      whole = rw w.whole (sym (append_assoc a w.front w.rest));
      taken =
          Appends-trans old mid new a w.front v.taken w.taken;
      failed = rw v.quiet at w.failed;
    }

pub takes_then : {old mid new : Option (List ℕ)} {a b : List ℕ} {m k n : ℕ} → TakesAll old a mid m k
    → TakesAll mid b new k n → TakesAll old (a ++ b) new m n
takes_then {old} {mid} {new} {a} {b} {m} {k} {n} v w =
    record { taken = Appends-trans old mid new a b v.taken w.taken; quiet = w.quiet ∙ v.quiet }

pub writes_then : {S T E : Type 0} (contents : S → Option (List ℕ)) (failures : S → ℕ) (old mid : S) (a b : List ℕ)
    (r : Result T E) (new : S) → TakesAll (contents old) a (contents mid) (failures old) (failures mid)
    → Writes contents failures mid b r new → Writes contents failures old (a ++ b) r new
writes_then contents failures old mid a b (Ok x) new v w = takes_then v w
writes_then contents failures old mid a b (Err e) new v w = fails_then v w

pub takes_nothing : (old : Option (List ℕ)) (m : ℕ) → TakesAll old [] old m m
takes_nothing old m = record { taken = Appends-nil old; quiet = refl }

-- ---- a write of a part after another

-- Of these bytes all but the rest were taken so far.
pub record TakesUpTo (old : Option (List ℕ)) (bytes remaining : List ℕ) (new : Option (List ℕ))
    (failures failures_after : ℕ) : Type 0 where
  pub front : List ℕ
  pub whole : bytes ≡ front ++ remaining
  pub taken : TakesAll old front new failures failures_after

pub takes_more : (old mid new : Option (List ℕ)) (bytes remaining : List ℕ) (m k n count : ℕ)
    → TakesUpTo old bytes remaining mid m k → Appends mid new (take count remaining) → n ≡ k
    → TakesUpTo old bytes (take (length remaining - count) (drop count remaining)) new m n
takes_more old mid new bytes remaining m k n count so_far more same = record {
  front = so_far.front ++ take count remaining;
  whole = so_far.whole ∙ ap (λ ws. so_far.front ++ ws) (sym (take-append-drop count remaining))
      ∙ sym (append_assoc so_far.front (take count remaining) (drop count remaining))
      ∙ ap (λ ws. (so_far.front ++ take count remaining) ++ ws)
      (sym (take_all (length remaining - count) (drop count remaining) (omega (arith, length-drop count remaining))));
  taken = takes_then so_far.taken (record { taken = more; quiet = same });
}

-- ---- a loop that writes each of the elements

pub each_fails : {X : Type 0} (f : X → List ℕ) (xs : List X) (i : ℕ) (d : X) {old mid new : Option (List ℕ)}
    {m k n : ℕ} → i < length xs → TakesAll old (flat_map f (take i xs)) mid m k
    → TakesBeginning mid (f (get_or xs i d)) new k n → TakesBeginning old (flat_map f xs) new m n
each_fails {X} f xs i d {old} {mid} {new} {m} {k} {n} lt v w =
    let whole : flat_map f xs ≡ flat_map f (take i xs)
    ++ (f (get_or xs i d) ++ flat_map f (drop (i + 1) xs)) = ap (flat_map f) (sym (take-append-drop i xs))
    ∙ flat_map-append f (take i xs) (drop i xs)
    ∙ ap (λ (ys : List X). flat_map f (take i xs) ++ flat_map f ys) (drop_more xs i d lt) in
    rw whole (fails_then v (fails_first (flat_map f (drop (i + 1) xs)) w))
