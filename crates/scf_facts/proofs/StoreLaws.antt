-- What facts of each word say of lists of words.
use Rattle.scf_insn.proofs.CallWords.{word_below}
use Rattle.scf_facts.proofs.Common.{◌-◌, recursion_from_All, All-from_recursion, common_steps, ◌≡◌, ◌≢◌, ℕ, suc, ◌<◌, ◌^◌, ◌↔◌, List, [], ◌∷◌, refl, sym, ap, subst, ◌∙◌, arith, length, get_or, gets, slice_get, Some, All, Bool, IsTrue, slice_index, slice_set, replicate, list_all, AllByRecursion, and_zero_r, cases_eq, get_or-set_same, get_or_read, get_or-replicate, length-set, length-replicate, All-set, AllPass-from_list_all, list_all-from_AllPass, IsWords, Atom, answer_at, atom_answer, word_of, NumberFacts, AllowsNumber, EachNumber, SomeNumber, AllowsWords, no_facts, is_exact_set}
use Rattle.scf_facts.specs.Masks.{RefuteAmong, RefutesAmong}

pub all_numbers : (x : ℕ) → x < 2 ^ 32 → AllowsNumber no_facts x
all_numbers x fits = grind (arith, and_zero_r x)

-- where nothing is known, every list of words is allowed
pub allows_all : (n : ℕ) (words : List ℕ) → AllowsWords (replicate n no_facts) words ↔ IsWords words
allows_all n words =
    grind (arith, common_steps, get_or-replicate, length-replicate, all_numbers, slice_index, word_below)

-- where the facts of a word are read
pub read : (sets : List NumberFacts) (index : ℕ) (old : NumberFacts) → slice_get sets index ≡ Some old
    → (index < length sets) × (old ≡ get_or sets index old)
read sets index old e = grind (arith, common_steps, gets)

module _ (sets : List NumberFacts) (index : ℕ) (old : NumberFacts)
    (lt : index < length sets) (read : old ≡ get_or sets index old) where
  -- other facts of one word
  pub allows_set : (new : NumberFacts) (P : ℕ → Type 0)
      → ((x : ℕ) → x < 2 ^ 32 → AllowsNumber new x ↔ (AllowsNumber old x × P x)) → (words : List ℕ)
      → AllowsWords (slice_set sets index new) words ↔ (AllowsWords sets words × P (slice_index words index))
  allows_set new P same words = (
    λ h. let this = rw (get_or-set_same sets index new old lt) at
        (h.each index old (omega (arith, lt, length-set sets index new))) in
        let r = (same (slice_index words index) (word_below words h.sixteen index)).0 this in (
          record {
            sixteen = h.sixteen;
            each = λ k d l.
                grind (arith, common_steps, cases_eq k index, h.each k d, r.0, get_or_read sets index old lt read d);
          },
          r.1,
        ),
    λ h. let this = subst (λ s. AllowsNumber s (slice_index words index)) (sym read) (h.0.each index old lt) in
        let r = (same (slice_index words index) (word_below words h.0.sixteen index)).1 (this, h.1) in
        record {
          sixteen = h.0.sixteen;
          each = λ k d l. grind (arith, common_steps, cases_eq k index, h.0.each k d, r);
        },
  )

  pub exact_word : IsTrue (list_all is_exact_set sets) → IsTrue (is_exact_set old)
  exact_word all =
      subst (λ s. IsTrue (is_exact_set s)) (sym read) (AllPass-from_list_all is_exact_set sets all index old lt)

  pub among_word : (masks : ℕ) → RefuteAmong masks sets → RefutesAmong masks old
  unfolding RefuteAmong
  among_word masks all = subst (RefutesAmong masks) (sym read) (all index old lt)

  pub exact_set : (new : NumberFacts) → (IsTrue (is_exact_set old) → IsTrue (is_exact_set new))
      → IsTrue (list_all is_exact_set sets) → IsTrue (list_all is_exact_set (slice_set sets index new))
  exact_set new exact all = grind (arith, common_steps, list_all-from_AllPass, slice_set, exact_word)

  pub among_set : (masks : ℕ) (new : NumberFacts) → (RefutesAmong masks old → RefutesAmong masks new)
      → RefuteAmong masks sets → RefuteAmong masks (slice_set sets index new)
  unfolding RefuteAmong
  among_set masks new keeps all =
      All-set (RefutesAmong masks) sets index new (keeps (among_word masks all)) all

  -- what each number of the word has, its number has in each list
  pub each_word : (P : ℕ → Type 0) → EachNumber old P → (words : List ℕ)
      → AllowsWords sets words → P (slice_index words index)
  each_word P each words h =
      grind (arith, word_below words h.sixteen index, each (slice_index words index), h.each index old lt)

  -- another number of the word, where other words up to some have theirs
  pub number_set : (words : List ℕ) (x n : ℕ) → index < length words → AllowsNumber old x
      → ((k : ℕ) (d : NumberFacts) → k < n → k ≢ index → AllowsNumber (get_or sets k d) (slice_index words k))
      → (k : ℕ) (d : NumberFacts) → k < n → AllowsNumber (get_or sets k d) (slice_index (slice_set words index x) k)
  number_set words x n room allowed others k d l =
      grind (arith, common_steps, cases_eq k index, others k d l, get_or_read sets index old lt read d)

  pub allows_other : (some : List ℕ) (x : ℕ) → index < 16
      → AllowsWords sets some → x < 2 ^ 32 → AllowsNumber old x → AllowsWords sets (slice_set some index x)
  allows_other some x below h fits allowed = record {
    sixteen = record {
      count = length-set some index x ∙ h.sixteen.count;
      each = recursion_from_All _ _
          (All-set (λ word. word < 2 ^ 32) some index x fits (All-from_recursion _ some h.sixteen.each));
    };
    each = number_set some x (length sets) (omega (arith, h.sixteen.count)) allowed (λ k d l _. h.each k d l);
  }

  -- so an answer of some number of the word is that of some list
  pub other_answer : (atom : Atom) (answer : Bool) → index ≡ word_of atom → index < 16 → (some : List ℕ)
      → AllowsWords sets some → SomeNumber old (λ x. answer_at atom x ≡ answer)
      → (words : List ℕ) × AllowsWords sets words × (atom_answer atom words ≡ answer)
  other_answer atom answer asked below some h (x, fits, allowed, e) = (
    slice_set some index x,
    allows_other some x below h fits allowed,
    rw (← asked, get_or-set_same some index x 0 (omega (arith, h.sixteen.count))) e,
  )

-- ---- some list

-- where each word may be some number, some list of words is allowed
some_words : (sets : List NumberFacts) → All (λ s. (x : ℕ) × (x < 2 ^ 32) × AllowsNumber s x) sets
    → (words : List ℕ) × (length words ≡ length sets) × AllByRecursion (λ word. word < 2 ^ 32) words
    × ((k : ℕ) (d : NumberFacts) → k < length sets → AllowsNumber (get_or sets k d) (slice_index words k))
some_words [] some = ([], refl, tt, λ k d lt. absurd (omega arith))
some_words (s ∷ sets) some =
    let here = some 0 s (omega arith) in
    let rest = some_words sets (λ k d lt. some (suc k) d (omega arith)) in (
      here.0 ∷ rest.0,
      ap suc rest.1,
      (here.1, rest.2),
      λ k d lt. grind (arith, common_steps, cases_eq k 0, here.2, rest.3 (k - 1) d),
    )

-- where nothing is known, nothing is refuted
pub nothing_refuted : (n masks : ℕ) → RefuteAmong masks (replicate n no_facts)
unfolding RefuteAmong
nothing_refuted n masks = λ k d lt. rw (get_or-replicate n k no_facts d (omega (arith, lt, length-replicate n no_facts)))
    (λ j e none. absurd (omega arith))

-- what each word does, one does
pub refutes_at : (sets : List NumberFacts) (masks : ℕ) → RefuteAmong masks sets → All (RefutesAmong masks) sets
unfolding RefuteAmong
refutes_at sets masks each = each

-- so where none is, some word allows no number
pub some_allowed : (sets : List NumberFacts) → length sets ≡ 16
    → All (λ s. (x : ℕ) × (x < 2 ^ 32) × AllowsNumber s x) sets
    → ((words : List ℕ) → AllowsWords sets words → ⊥) → ⊥
some_allowed sets sixteen some none = grind (arith, common_steps, some_words)
