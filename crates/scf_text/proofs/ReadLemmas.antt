-- Reading one statement after another.
use Rattle.scf_text.proofs.Common.{◌≡◌, ◌≢◌, ℕ, ◌+◌, ◌-◌, ◌<◌, ◌≤◌, Bool, List, [], ◌∷◌, ◌++◌, length, map, Option, Some, None, Result, Ok, Err, refl, sym, ap, subst, ◌∙◌, append_assoc, append-nil, arith, inl, inr, zero-add, ltb, flat_map, lookup, is_some, option_or, option_to_list, unwrap_or, IsSome, IfOk, option_map, bytes_eq, OnErr, cond, true, false, prefix_len, nat_eq, nat_eq_equiv, length-append, length-map, map-append, All, All-append, All-contains, All-head, All-map, All-nil, All-push, All-tail, all_pairs_push, Contains-append_cases, Contains-append_left, Contains-append_right, Contains-push, Contains-push_cases, IsDistinct, IsDistinct-IsPermutation, IsDistinct-from_apart, IsNonDecreasing, IsPermutation, IsPermutation-append_left, IsPermutation-refl, IsPermutation-trans, cases_Bool, same_from_decides, nat_tests, bytes_eq-Decides, flat_map-append, TextFault, before_comment, lines_of, Statement, NumberedInsn, index_of, label_in, instruction_in, parsed_insns_in, label_at, labels_from, statements_from, IsFault, label_fault, instruction_fault, statements_fault, IsFirstRepeat, TellsRepeat, Labels, labels_at, repeat_fault, IsLinePart, line_at, name_at, AreKept, IsEnded, IsLeft, Leaves, HaveTokens, begins_of, part_statements, AddsInstruction, AddsLabel}
use Rattle.scf_text.specs.declared.fault.TextFault.TheVariants as fault
use Rattle.std.proofs.lemmas.List.Sorted.{IsNonDecreasingBy-push}
use Rattle.scf_text.proofs.IndexLemmas.{line_of_part, name_of_part}
use Rattle.scf_text.proofs.RepeatLemmas.{IsKnown, first_more, least_last}
use Rattle.scf_text.proofs.TokenLemmas.{statements_are}
use Rattle.std.proofs.lemmas.Grind.{common_steps}

pub fault_first : (e : TextFault) (a b : Option TextFault) → IsFault e a → IsFault e (option_or a b)
fault_first e a b h = grind (arith, common_steps, nat_tests)

pub fault_then : (e : TextFault) (a b : Option TextFault) → a ≡ None → IsFault e b → IsFault e (option_or a b)
fault_then e a b none h = rw none h

pub none_in_front : {A : Type 0} (xs ys : List A) → xs ++ ys ≡ [] → (xs ≡ []) × (ys ≡ [])
none_in_front [] ys e = (refl, e)
none_in_front (x ∷ xs) ys e = absurd cc

-- a list that stands between others isn't all of nothing
pub some_between : {A : Type 0} (a b c : List A) → b ≢ [] → a ++ (b ++ c) ≢ []
some_between a b c some none = some (none_in_front b c (none_in_front a (b ++ c) none).1).0

-- one statement behind others

pub count_more : (before : List Statement) (s : Statement) → length (flat_map parsed_insns_in (before ++ s ∷ []))
    ≡ length (flat_map parsed_insns_in before) + length (parsed_insns_in s)
count_more before s = rw (flat_map-append, append-nil, length-append) refl

pub labels_more : (at : ℕ) (before : List Statement) (s : Statement)
    → labels_from at (before ++ s ∷ []) ≡ labels_from at before
    ++ label_at (at + length (flat_map parsed_insns_in before)) (label_in s.tokens)
labels_more at [] s = grind (arith, append-nil)
labels_more at (b ∷ before) s =
    grind (arith, labels_more (at + length (parsed_insns_in b)) before s, append_assoc, length-append)

pub lookup_push : (p : List ℕ → Bool) (ls : Labels) (l : List ℕ × ℕ)
    → lookup p (ls ++ l ∷ []) ≡ option_or (lookup p ls) (cond (p l.0) (Some l.1) None)
lookup_push p [] l = refl
lookup_push p (k ∷ ls) l = grind (arith, common_steps, nat_tests, cases_Bool, lookup_push p ls l)

pub bytes_eq_sym : (a b : List ℕ) → bytes_eq a b ≡ bytes_eq b a
bytes_eq_sym a b = grind (arith, common_steps, nat_tests, bytes_eq-Decides, same_from_decides)

pub is_none : {A : Type 0} (o : Option A) → is_some o ≡ false → o ≡ None
is_none None h = refl
is_none (Some x) h = absurd cc

-- the instructions before a label

count_kept : (k : ℕ) (bs zs : List ℕ) → All (λ z. k ≤ z) zs
    → prefix_len (λ b. ltb b k) (bs ++ zs) ≡ prefix_len (λ b. ltb b k) bs
count_kept k [] [] behind = refl
count_kept k [] (z ∷ zs) behind = grind (arith, common_steps, nat_tests, All-head)
count_kept k (b ∷ bs) zs behind = grind (arith, common_steps, nat_tests, cases_Bool, count_kept k bs zs behind)

count_all : (k : ℕ) (bs : List ℕ) → All (λ b. b < k) bs → prefix_len (λ b. ltb b k) bs ≡ length bs
count_all k [] below = refl
count_all k (b ∷ bs) below =
    let lt : b < k = All-head (λ b. b < k) b bs below in
    let t : ltb b k ≡ true = grind (arith, nat_tests) in
    rw t (omega (arith, count_all k bs (All-tail (λ b. b < k) b bs below)))

-- one more label, or more instructions

module _ (text : List ℕ) where
  labels_kept : (bs zs labels : List ℕ) (end : ℕ) → All (λ s. s < end) labels → All (λ z. end ≤ z + 1) zs
      → labels_at text (bs ++ zs) labels ≡ labels_at text bs labels
  labels_kept bs zs [] end before behind = refl
  labels_kept bs zs (s ∷ labels) end before behind =
      let lt : s < end = All-head (λ s. s < end) s labels before in
      rw (count_kept s bs zs (λ j d more. omega (arith, behind j d more)))
      (ap (λ (ls : Labels). (name_at text s, prefix_len (λ b. ltb b s) bs) ∷ ls)
      (labels_kept bs zs labels end (All-tail (λ s. s < end) s labels before) behind))

  known_then : (labels : List ℕ) (l s : ℕ) (b : Bool) → name_at text s ≢ name_at text l → IsKnown text labels s b
      → IsKnown text (l ∷ labels) s b
  known_then labels l s true other h = (h.0, Contains-append_right (l ∷ []) labels h.0 h.1, h.2)
  known_then labels l s false other h = λ a given.
      elim (Contains-append_cases (l ∷ []) labels a given) [
        | inl here ↦
            elim (Contains-push_cases [] l a here) [
              | inl none ↦ let lt : none.0 < 0 = none.1 in absurd (omega arith)
              | inr e ↦ λ same. other (sym same ∙ ap (name_at text) (sym e))
            ]
        | inr later ↦ h a later
      ]

  -- a name is known where a label has it
  known : (begins labels : List ℕ) (s : ℕ)
      → IsKnown text labels s (is_some (index_of (labels_at text begins labels) (name_at text s)))
  known begins [] s = λ a given. let none : given.0 < 0 = given.1 in absurd (omega arith)
  known begins (l ∷ labels) s =
      let decides = bytes_eq-Decides (name_at text s) (name_at text l) in
      elim (cases_Bool (bytes_eq (name_at text s) (name_at text l))) [
        | inl here ↦ rw here (l, Contains-append_left (l ∷ []) labels l (Contains-push [] l), sym (decides.0 here))
        | inr other ↦ rw other
            (known_then labels l s (is_some (index_of (labels_at text begins labels) (name_at text s)))
            (λ same. let t = decides.1 same in cc) (known begins labels s))
      ]

  label_faults : (line s : ℕ) (repeat : Option ℕ) (known : Bool) (i later : Option TextFault) → line_at text s ≡ line
      → option_or (option_map (repeat_fault text) repeat)
      (option_or (option_or (cond known (Some (fault.Label line)) None) i) later)
      ≡ option_or (option_map (repeat_fault text) (option_or repeat (cond known (Some s) None))) (option_or i later)
  label_faults line s repeat known i later h = grind (arith, common_steps, nat_tests)

  label_kept : {end line : ℕ} {given : Labels} {all : List Statement} {begins old new : List ℕ} (s : ℕ)
      (i later : Option TextFault)
      → AreKept text end given all
      (option_or (option_or (label_fault (index_of given) line (Some (name_at text s))) i) later) begins old
      → end ≤ s → line_at text s ≡ line → IsPermutation (old ++ s ∷ []) new
      → AreKept text (s + 1) (given ++ (name_at text s, length begins) ∷ []) all (option_or i later) begins new
  label_kept {end} {line} {given} {all} {begins} {old} {new} s i later k le numbered moved =
      let is_given = is_some (index_of given (name_at text s)) in
      let below : All (λ a. a < s) k.labels = λ j d lt. omega (arith, k.before j d lt) in
      let begun : All (λ b. b < s) begins = λ j d lt. omega (arith, k.begun j d lt) in
      record {
        labels = k.labels ++ s ∷ [];
        moved = IsPermutation-trans (k.labels ++ s ∷ []) (old ++ s ∷ []) new
            (IsPermutation-append_left (s ∷ []) k.labels old k.moved) moved;
        named = rw (map-append, count_all s begins begun, k.named) refl;
        rising = all_pairs_push (λ a b. a < b) k.labels s k.rising below;
        before = All-push (λ a. a < s + 1) k.labels s (λ j d lt. omega (arith, below j d lt)) (omega arith);
        begun = λ j d lt. omega (arith, begun j d lt);
        following = k.following;
        repeat = option_or k.repeat (cond is_given (Some s) None);
        first = subst (λ (o : Option ℕ). IsFirstRepeat text (k.labels ++ s ∷ []) o)
            (least_last text k.labels s k.repeat is_given below k.first)
            (first_more text k.labels s (λ a given same. All-contains (λ b. b < s) k.labels a below given) k.repeat
            is_given (rw (← k.named) (known begins k.labels s)) k.first);
        fault = k.fault ∙ label_faults line s k.repeat is_given i later numbered;
      }

more_following : {X : Type 0} (bs : List ℕ) (index : ℕ) (xs : List X) → IsNonDecreasing bs → All (λ b. b ≤ index) bs
    → IsNonDecreasing (bs ++ map (λ _. index) xs)
more_following bs index [] following below = rw append-nil following
more_following bs index (x ∷ xs) following below =
    rw (← append_assoc bs (index ∷ []) (map (λ _. index) xs))
    (more_following (bs ++ index ∷ []) index xs
    (IsNonDecreasingBy-push (λ b. b) bs index following (λ d some. below (length bs - 1) d (omega arith)))
    (All-push (λ b. b ≤ index) bs index below (omega arith)))

pub more_kept : {text : List ℕ} {end : ℕ} {given : Labels} {all : List Statement} {later : Option TextFault}
    {begins old : List ℕ} (index : ℕ) (here new : List ℕ) → AreKept text end given all later begins old
    → All (λ z. end ≤ z + 1) here → All (λ z. z < index) here → IsNonDecreasing (begins ++ here) → end ≤ index
    → IsPermutation old new → AreKept text index given all later (begins ++ here) new
more_kept {text} {end} {given} {all} {later} {begins} {old} index here new k behind below following le moved = record {
  labels = k.labels;
  moved = IsPermutation-trans k.labels old new k.moved moved;
  named = labels_kept text begins here k.labels end k.before behind ∙ k.named;
  rising = k.rising;
  before = λ j d lt. omega (arith, k.before j d lt);
  begun = All-append (λ b. b < index) begins here (λ j d lt. omega (arith, k.begun j d lt)) below;
  following = following;
  repeat = k.repeat;
  first = k.first;
  fault = k.fault;
}

-- up to a later index, in another order
pub index_kept : {text : List ℕ} {end : ℕ} {given : Labels} {all : List Statement} {later : Option TextFault}
    {begins old : List ℕ} (index : ℕ) (new : List ℕ) → AreKept text end given all later begins old → end ≤ index
    → IsPermutation old new → AreKept text index given all later begins new
index_kept {text} {end} index new k le moved =
    rw append-nil at (more_kept index [] new k (All-nil (λ z. end ≤ z + 1)) (All-nil (λ z. z < index))
    (rw append-nil k.following) le moved)

-- No two labels begin at one index.
pub apart : {text : List ℕ} {end : ℕ} {given : Labels} {all : List Statement} {later : Option TextFault}
    {begins stored : List ℕ} → AreKept text end given all later begins stored → IsDistinct nat_eq stored
apart {stored = stored} k =
    IsDistinct-IsPermutation nat_eq nat_eq_equiv.symm k.labels stored k.moved
    (IsDistinct-from_apart nat_eq k.labels
    (λ i j d lt within. let less = k.rising i j d lt within in grind (arith, nat_tests)))

-- one statement behind others

label_step : {text bytes : List ℕ} {start line : ℕ} {name : Option (List ℕ)} {given : Labels} {all : List Statement}
    {begins old new : List ℕ} (label : Option ℕ) (i later : Option TextFault)
    → AreKept text start given all (option_or (option_or (label_fault (index_of given) line name) i) later) begins old
    → IsLinePart text line start bytes → option_map (name_at bytes) label ≡ name → unwrap_or label 0 ≤ length bytes
    → IsPermutation (old ++ option_to_list (option_map (λ _. start + unwrap_or label 0) label)) new
    → AreKept text (start + unwrap_or label 0 + 1) (given ++ label_at (length begins) name) all (option_or i later)
    begins new
label_step {text} {bytes} {start} {line} {name} {given} {all} {begins} {old} {new} None i later k part e le moved =
    rw (← e, append-nil) (index_kept (start + 0 + 1) new (rw (← e) at k) (omega arith) (rw append-nil at moved))
label_step {text} {bytes} {start} {line} {name} {given} {all} {begins} {old} {new} (Some l) i later k part e le moved =
    let same : Some (name_at text (start + l)) ≡ name = ap Some (name_of_part text bytes line start l part le) ∙ e in
    subst (λ (n : Option (List ℕ)). AreKept text (start + l + 1) (given ++ label_at (length begins) n) all
    (option_or i later) begins new) same
    (label_kept text (start + l) i later
    (subst (λ (n : Option (List ℕ)). AreKept text start given all
    (option_or (option_or (label_fault (index_of given) line n) i) later) begins old) (sym same) k)
    (omega arith) (line_of_part text bytes line start l part le) moved)

-- a statement of a part, its label and where it begins
module _ {text bytes : List ℕ} {start : ℕ} {all remaining : List Statement} {old : List ℕ} {ds : List NumberedInsn}
    (s : Statement) (label : Option ℕ) (new : List ℕ) (left : IsLeft text start all (s ∷ remaining) old ds)
    (part : IsLinePart text s.line start bytes) (named : option_map (name_at bytes) label ≡ label_in s.tokens)
    (within : unwrap_or label 0 ≤ length bytes) where
  -- where the statement begins, with its label if it has one
  abbrev index : ℕ
  index = start + unwrap_or label 0

  abbrev own_fault : Option TextFault
  own_fault = instruction_fault (length ds) s.line (instruction_in s.tokens)

  abbrev later_fault : Option TextFault
  later_fault = statements_fault (left.before ++ s ∷ []) remaining

  abbrev given : Labels
  given = labels_from 0 (left.before ++ s ∷ [])

  statement_label : IsPermutation (old ++ option_to_list (option_map (λ _. index) label)) new
      → AreKept text (index + 1) given all (option_or own_fault later_fault) (begins_of ds) new
  statement_label moved =
      let count : length (flat_map parsed_insns_in left.before) ≡ length ds =
      ap length (sym left.parsed_insns) ∙ length-map ds _ in
      let begun : length (begins_of ds) ≡ 0 + length (flat_map parsed_insns_in left.before) =
      length-map ds _ ∙ sym count ∙ sym (zero-add (length (flat_map parsed_insns_in left.before))) in
      let more : labels_from 0 left.before ++ label_at (length (begins_of ds)) (label_in s.tokens) ≡ given =
      ap (λ n. labels_from 0 left.before ++ label_at n (label_in s.tokens)) begun ∙ sym (labels_more 0 left.before s) in
      let fault : ℕ → Option TextFault = λ n. instruction_fault n s.line (instruction_in s.tokens) in
      subst (λ (ls : Labels). AreKept text (index + 1) ls all (option_or own_fault later_fault) (begins_of ds) new) more
      (subst (λ n. AreKept text (index + 1)
      (labels_from 0 left.before ++ label_at (length (begins_of ds)) (label_in s.tokens)) all
      (option_or (fault n) later_fault) (begins_of ds) new) count
      (label_step label (fault (length (flat_map parsed_insns_in left.before))) later_fault left.labels part named within
      moved))

  have_tokens : s.tokens ≢ [] → HaveTokens all
  have_tokens some = grind (arith, common_steps, nat_tests, flat_map-append, some_between)

  pub statement_leaves : {T : Type 0} (r : Result T TextFault) (end : T → ℕ) (es : List NumberedInsn)
      → IsPermutation (old ++ option_to_list (option_map (λ _. index) label)) new
      → AddsInstruction ds index s.line (instruction_in s.tokens) r es → IfOk r (λ x. index + 1 ≤ end x)
      → OnErr r (s.tokens ≢ []) → Leaves text r all remaining end new es
  statement_leaves (Ok x) end es moved h behind some = record {
    before = left.before ++ s ∷ [];
    whole = left.whole ∙ sym (append_assoc left.before (s ∷ []) remaining);
    parsed_insns = h.1 ∙ rw (left.parsed_insns, flat_map-append, append-nil) refl;
    labels =
        let k = statement_label moved in
        subst (λ (bs : List ℕ). AreKept text (end x) given all later_fault bs new) (sym h.2)
        (more_kept (end x) (map (λ _. index) (parsed_insns_in s)) new
        (subst (λ (f : Option TextFault). AreKept text (index + 1) given all (option_or f later_fault) (begins_of ds)
        new) h.0 k) (All-map (λ z. index + 1 ≤ z + 1) (λ _. index) (parsed_insns_in s) (λ k d lt. omega arith))
        (All-map (λ z. z < end x) (λ _. index) (parsed_insns_in s) (λ k d lt. omega arith))
        (more_following (begins_of ds) index (parsed_insns_in s) k.following (λ j d lt. omega (arith, k.begun j d lt)))
        behind (IsPermutation-refl new));
  }
  statement_leaves (Err e) end es moved h behind some = record {
    end = index + 1;
    given = given;
    later = option_or own_fault later_fault;
    begins = begins_of ds;
    labels = statement_label moved;
    fault = λ none. fault_first e own_fault later_fault h;
    some = have_tokens some;
  }

  -- a statement with a label has a token
  label_tokens : (b : ℕ) (o : Option ℕ) → option_map (name_at bytes) o ≡ label_in s.tokens
      → IsSome (option_map (λ _. b) o) → s.tokens ≢ []
  label_tokens b o h h2 = grind (arith, common_steps, nat_tests)

  pub label_refused : (e : TextFault)
      → AddsLabel {T = Unit {0}} text old (option_map (λ _. index) label) (Err e) new
      → IsSome (option_map (λ _. index) label) → IsEnded text all new e
  label_refused e h some =
      let tokens = have_tokens (label_tokens index label named some) in
      elim h [
        | inl none ↦ record {
          end = start;
          given = labels_from 0 left.before;
          later = statements_fault left.before (s ∷ remaining);
          begins = begins_of ds;
          labels = rw none.0 left.labels;
          fault = λ first. rw none.1 tt;
          some = tokens;
        }
        | inr told ↦
            let labels = statement_label told.0 in
            let first = told.1 (apart labels) in
            record {
              end = index + 1;
              given = given;
              later = option_or own_fault later_fault;
              begins = begins_of ds;
              labels = labels;
              fault = λ none. absurd (none first.0 first.1.0);
              some = tokens;
            }
      ]

pub index_left : {text : List ℕ} {end : ℕ} {all remaining : List Statement} {labels : List ℕ} {ds : List NumberedInsn}
    (index : ℕ) (sorted : List ℕ) → IsLeft text end all remaining labels ds → end ≤ index → IsPermutation labels sorted
    → IsLeft text index all remaining sorted ds
index_left index sorted left le moved = grind (arith, common_steps, nat_tests, index_kept)

pub is_fault : (e : TextFault) (o : Option TextFault) → o ≡ Some e → IsFault e o
is_fault e o h = grind (arith, common_steps, nat_tests)

-- the label is kept, and the labels were searched for repeats
pub label_checked : {T : Type 0} (text old : List ℕ) (label : Option ℕ) (r : Result T TextFault) (new : List ℕ)
    → IsPermutation (old ++ option_to_list label) new → (IsDistinct nat_eq new → TellsRepeat text new r)
    → AddsLabel text old label r new
label_checked text old label r new kept tells = grind (arith, common_steps, nat_tests)

-- a line is read before the lines behind it
pub next_line : (n : ℕ) (text line bytes : List ℕ) (lines : List (List ℕ)) → lines_of text ≡ line ∷ lines
    → bytes ≡ before_comment line
    → statements_from n (lines_of text) ≡ part_statements n bytes ++ statements_from (n + 1) lines
next_line n text line bytes lines e shown = rw (e, shown, statements_are) refl
